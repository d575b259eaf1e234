-- Channels apart: lists of calls that are alike for one channel give it the same answers.
use Rattle.std.specs.Prelude.{◌≡◌, ℕ, ◌+◌, ◌-◌, ◌*◌, ◌/◌, ◌%◌, ◌<◌, Bool, true, false, cond, not, ◌&&◌, ◌||◌, List, [], ◌∷◌, Ok, Err, Result, ◌==◌, nat_le, nat_lt}
use Rattle.refusal.specs.declared.Refusal.{Refusal}
use Rattle.bits.specs.Words.{word_flag}
use Rattle.card.specs.Calls.{powered_on}
use Rattle.card.specs.Registers.{channel_at, in_channels, in_snapshots, snapshot_at}
use Rattle.runs.specs.declared.Answer.{Answer}
use Rattle.runs.specs.declared.Answer.TheVariants.{Levels, Value, Done}
use Rattle.runs.specs.declared.Call.{Call}
use Rattle.runs.specs.declared.Call.TheVariants.{Tick, Read, Write}
use Rattle.runs.specs.Runs.{answers}

-- an access is refused where no register stands: at no multiple of 4, or above 0x1FC
abbrev pub nowhere : ℕ → Bool
nowhere o = not (o % 4 == 0) || nat_lt 508 o

-- whether the register at an offset is channel k's or no single channel's; an MCR Data Register is its channel's
abbrev pub concerns : ℕ → ℕ → Bool
concerns k o =
    cond (nowhere o) false (
    cond (in_channels o) (channel_at o == k) (
    cond (in_snapshots o) (snapshot_at o == k) true))

-- eight fields of w bits, channel 0's from bit f up: whether bit b is in one of them, and that is not channel k's
abbrev pub others_in : ℕ → ℕ → ℕ → ℕ → Bool
others_in k f w b = nat_le f b && (nat_lt b (f + 8 * w) && not ((b - f) / w == k))

-- whether bit b of the register at an offset is named for other channels than k
abbrev pub named_for_others : ℕ → ℕ → ℕ → Bool
named_for_others k o b =
    -- 0x000 Global Control: MODE 15:0, MCR 23:16
    cond (o == 0) (others_in k 0 2 b || others_in k 16 1 b) (
    -- 0x004 Global Command: LCNT 7:0
    cond (o == 4) (others_in k 0 1 b) (
    -- 0x150 24 V Input: the levels 7:0
    cond (o == 336) (others_in k 0 1 b) (
    -- 0x154 24 V Input Debouncing: ADE 31:24
    cond (o == 340) (others_in k 24 1 b) (
    -- 0x160 24 V Output Control: DOEN03 is bit 0, for channels 0 to 3, and DOEN47 bit 1, for channels 4 to 7
    cond (o == 352) (cond (nat_lt k 4) (b == 1) (b == 0)) (
    -- 0x164 24 V Output: DO 7:0
    cond (o == 356) (others_in k 0 1 b) (
    -- 0x168 24 V Output Status: DOS 7:0
    cond (o == 360) (others_in k 0 1 b) (
    -- 0x180 Interrupt Enable: VCM EN 7:0, FCM EN 15:8
    cond (o == 384) (others_in k 0 1 b || others_in k 8 1 b) (
    -- 0x184 24 V Input Interrupt Enable: rising 7:0, falling 15:8
    cond (o == 388) (others_in k 0 1 b || others_in k 8 1 b) (
    -- 0x188 Interrupt Status: VCM STA 7:0, FCM STA 15:8
    cond (o == 392) (others_in k 0 1 b || others_in k 8 1 b) (
    -- 0x18C 24 V Input Interrupt Status: rising 7:0, falling 15:8
    cond (o == 396) (others_in k 0 1 b || others_in k 8 1 b) (
    -- 0x1F0 Test: the lines 23:0, OUT 31:24
    cond (o == 496) (others_in k 0 3 b || others_in k 24 1 b) false)))))))))))

-- MCR STA, bits 1:0 of 0x008, and EDGE STA, bit 21 of 0x188, tell of all channels at once
abbrev pub tells_of_all : ℕ → ℕ → Bool
tells_of_all o b = (o == 8 && nat_lt b 2) || (o == 392 && b == 21)

-- two words that are written to the register at an offset differ only in bits that are named for others
abbrev pub SameFor : ℕ → ℕ → ℕ → ℕ → Type 0
SameFor k o v w = (b : ℕ) → named_for_others k o b ≡ false → word_flag v b ≡ word_flag w b

-- an access to another channel's register, or one that is refused for its offset
abbrev pub Elsewhere : ℕ → Call → Type 0
Elsewhere k (Tick lines inputs) = ⊥
Elsewhere k (Read o) = concerns k o ≡ false
Elsewhere k (Write o v) = concerns k o ≡ false

-- two calls that are alike for channel k: ticks with equal levels on its three lines and its input; reads, or writes, of one
-- register of k or of no single channel; any two accesses that are none of k's
pub data Alike (k : ℕ) : Call → Call → Type 0 where
  ticks : {l m i j : ℕ} → word_flag l (3 * k) ≡ word_flag m (3 * k) → word_flag l (3 * k + 1) ≡ word_flag m (3 * k + 1)
      → word_flag l (3 * k + 2) ≡ word_flag m (3 * k + 2) → word_flag i k ≡ word_flag j k → Alike k (Tick l i) (Tick m j)
  reads : {o : ℕ} → concerns k o ≡ true → Alike k (Read o) (Read o)
  writes : {o v w : ℕ} → concerns k o ≡ true → SameFor k o v w → Alike k (Write o v) (Write o w)
  elsewhere : {x y : Call} → Elsewhere k x → Elsewhere k y → Alike k x y

-- two lists, equally long, that are alike for channel k at every place
pub data AllAlike (k : ℕ) : List Call → List Call → Type 0 where
  none : AllAlike k [] []
  more : {x y : Call} {xs ys : List Call} → Alike k x y → AllAlike k xs ys → AllAlike k (x ∷ xs) (y ∷ ys)

-- what a channel has of an answer: its clock and output level; the bits of a word, false in place of those that are not its own;
-- whether an access was refused; nothing
pub data Seen : Type 0 where
  levels : Bool → Bool → Seen
  bits : (ℕ → Bool) → Seen
  refused : Refusal → Seen
  written : Result (Unit {0}) Refusal → Seen
  nothing : Seen

-- channel k's own and the shared bits of a word read at an offset
abbrev pub bits_seen : ℕ → ℕ → ℕ → ℕ → Bool
bits_seen k o w b = cond (named_for_others k o b || tells_of_all o b) false (word_flag w b)

abbrev pub word_seen : ℕ → ℕ → Result ℕ Refusal → Seen
word_seen k o (Ok w) = bits (bits_seen k o w)
word_seen k o (Err e) = refused e

abbrev pub tick_seen : ℕ → Answer → Seen
tick_seen k (Levels l) = levels (word_flag l.clocks k) (word_flag l.outputs k)
tick_seen k (Value r) = nothing
tick_seen k (Done r) = nothing

abbrev pub access_seen : ℕ → ℕ → Answer → Seen
access_seen k o (Levels l) = nothing
access_seen k o (Value r) = word_seen k o r
access_seen k o (Done r) = written r

-- what channel k has of the answer to a call
abbrev pub seen : ℕ → Call → Answer → Seen
seen k (Tick lines inputs) a = tick_seen k a
seen k (Read o) a = cond (concerns k o) (access_seen k o a) nothing
seen k (Write o v) a = cond (concerns k o) (access_seen k o a) nothing

abbrev pub seen_all : ℕ → List Call → List Answer → List Seen
seen_all k [] answered = []
seen_all k (x ∷ xs) [] = []
seen_all k (x ∷ xs) (a ∷ rest) = seen k x a ∷ seen_all k xs rest

-- lists that are alike for a channel, each on a new card, give it the same answers at every place
abbrev pub Separate : Type 0
Separate = (k : ℕ) → k < 8 → (xs ys : List Call) → AllAlike k xs ys
    → seen_all k xs (answers powered_on xs) ≡ seen_all k ys (answers powered_on ys)
