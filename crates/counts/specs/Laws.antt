-- The law of counts: on a new card, every count is what the calls alone make of it.
use Rattle.std.specs.Prelude.{◌≡◌, ℕ, ◌^◌, ◌<◌, false, List, [], ◌∷◌, ℤ, pos, negsuc, ◌+ℤ◌, Ok}
use Rattle.counter.specs.Counters.{latches}
use Rattle.card.specs.Calls.{powered_on}
use Rattle.card.specs.Records.{channel_of}
use Rattle.runs.specs.declared.Answer.TheVariants.{Value}
use Rattle.runs.specs.declared.Call.{Call}
use Rattle.runs.specs.declared.Call.TheVariants.{Tick, Read, Write}
use Rattle.runs.specs.Runs.{answer_to, run}
use Rattle.tally.specs.Tally.{modulo}
use Rattle.counts.specs.Tallies.{counting, register_at, tallied}

-- a host writes words of 32 bits; a call of this model could hold any number
abbrev pub Fits : Call → Type 0
Fits (Tick lines inputs) = Unit {0}
Fits (Read o) = Unit {0}
Fits (Write o v) = v < 2 ^ 32

abbrev pub AllFit : List Call → Type 0
AllFit [] = Unit {0}
AllFit (x ∷ xs) = Fits x × AllFit xs

-- channel k's count after a list of calls on a new card
abbrev pub count_after : ℕ → List Call → ℕ
count_after k xs = (channel_of k (run powered_on xs)).counter.count.value

-- the last load of channel k, and the signed sum of its steps since
abbrev pub load_over : ℕ → List Call → ℕ
load_over k xs = (tallied k xs).counter.load

abbrev pub sum_over : ℕ → List Call → ℤ
sum_over k xs = (tallied k xs).counter.sum

-- after every list of calls, the count of every channel is its last load plus the signed steps since, modulo 2^32
abbrev pub Counts : Type 0
Counts = (k : ℕ) → k < 8 → (xs : List Call) → AllFit xs → count_after k xs ≡ modulo (pos (load_over k xs) +ℤ sum_over k xs)

-- and a host that then reads the Data Register of a channel in Counter Mode, but not in Latch on I, is answered with it
abbrev pub CountsRead : Type 0
CountsRead = (k : ℕ) → k < 8 → (xs : List Call) → AllFit xs
    → (tallied k xs).mode ≡ counting → latches (tallied k xs).counter.settings.index ≡ false
    → answer_to (run powered_on xs) (Read (register_at k 32)) ≡ Value (Ok (modulo (pos (load_over k xs) +ℤ sum_over k xs)))

-- channel 3 in Counter Mode: INPUT 111, 0xFFFFFFFE loaded by LCNT, a sample in every tick
abbrev pub quadrature_set : List Call → List Call
quadrature_set xs = Write 0 128 ∷ Write 144 7 ∷ Write 152 4294967294 ∷ Write 160 2 ∷ Write 164 0 ∷ xs

-- levels of channel 3's lines, held for the three samples that a filter wants
abbrev pub held : ℕ → List Call → List Call
held lines xs = Tick lines 0 ∷ Tick lines 0 ∷ Tick lines 0 ∷ xs

-- (A, B) goes 00, 10, 11, 01, 00: four steps up
abbrev pub turn_up : List Call
turn_up = quadrature_set (held 512 (held 1536 (held 1024 (held 0 []))))

-- channel 0 in Counter Mode: INPUT 010 with a step down in every tick, 1 loaded by LCNT of Global Command
abbrev pub timer_down : List Call
timer_down = Write 0 2 ∷ Write 24 58 ∷ Write 32 1 ∷ Write 4 1 ∷ Tick 0 0 ∷ Read 48 ∷ Tick 0 0 ∷ Tick 0 0 ∷ []

-- two lists that a host can make, each through a wrap: load, sum and count
pub record Wraps : Type 0 where
  pub up_fits : AllFit turn_up
  pub up_load : load_over 3 turn_up ≡ 4294967294
  pub up_sum : sum_over 3 turn_up ≡ pos 4
  pub up_count : count_after 3 turn_up ≡ 2
  pub up_others : count_after 2 turn_up ≡ 0
  pub down_fits : AllFit timer_down
  pub down_load : load_over 0 timer_down ≡ 1
  pub down_sum : sum_over 0 timer_down ≡ negsuc 2
  pub down_count : count_after 0 timer_down ≡ 4294967294
