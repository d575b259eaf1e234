-- Shared registers as they read: cards that are the same for a channel show it the same bits.
use Rattle.std.proofs.Common.{◌≡◌, ℕ, zero, suc, ◌+◌, ◌-◌, ◌*◌, ◌%◌, ◌^◌, ◌<◌, ◌≤◌, Bool, true, false, cond, ◌&&◌, ◌||◌, eqb, ltb, List, length, get_or, sym, refl, ap, ◌∙◌, subst, ap₂, ⊎_elim, arith}
use Rattle.std.proofs.Math.Nat.{sub-zero}
use Rattle.std.proofs.Math.Pow.{pow_mono}
use Rattle.std.proofs.lemmas.Nat.{div-add-mod', mod_below, mul-add-lt, pow-add}
use Rattle.std.proofs.lemmas.Nat.Bits.{bit_at_mask_below, bit_at_mask_inside, bit_at_ones, bit_at_ones_above}
use Rattle.std.proofs.lemmas.Bool.Decides.{nat_tests}
use Rattle.std.proofs.lemmas.Bool.{and_left, cases_lt, eqb-false, eqb-true, ltb-false, ne_eqb, or_parts}
use Rattle.bits.specs.Words.{bit_at, field_at, word_flag}
use Rattle.filter.specs.declared.debounce.Debounce.{Debounce}
use Rattle.filter.specs.Debounces.{word_of_debounce as debounce_fields}
use Rattle.timer.specs.Timers.{word_of_control as timer_word}
use Rattle.channel.specs.declared.act.Bit.{Bit}
use Rattle.channel.specs.declared.act.Bit.TheVariants.{Clock, FallingEnabled, FallingPending, FaultEnabled, FaultPending, Input, InputDebounced, Output, RisingEnabled, RisingPending, SnapshotEnabled, TestOutput, ValidEnabled, ValidPending}
use Rattle.channel.specs.declared.act.Share.{Share}
use Rattle.channel.specs.declared.act.Share.TheVariants.{Lines, Mode, Single}
use Rattle.channel.specs.declared.channel.Channel.{Channel}
use Rattle.channel.specs.declared.mode.Mode.{Mode as Working}
use Rattle.channel.specs.Shares.{bit_of, mode_word_as, share_of, width_of}
use Rattle.table.specs.Tables.{gathered}
use Rattle.card.specs.declared.Card.{Card}
use Rattle.card.specs.declared.shared.Shared.{Shared}
use Rattle.card.specs.declared.snapshots.SnapshotStatus.{SnapshotStatus}
use Rattle.card.specs.Records.{blank}
use Rattle.card.specs.Shared.{word_of_enables, mask_of_outputs}
use Rattle.card.specs.Snapshots.{status_of, status_word}
use Rattle.card.specs.Words.{has_edge, word_of_control, word_of_debounce, outputs_driven, enables_of_interrupts, status_of_interrupts, levels_now, pair_of, register_word, word_of_test}
use Rattle.separate.specs.Separation.{named_for_others, others_in, tells_of_all}
use Rattle.separate.proofs.Words.{flag_above, flag_and, flag_high, flag_low, word_below, word_bit}
use Rattle.separate.proofs.Named.{in_own, own_bit}
use Rattle.separate.proofs.Same.{Same}

-- a channel's share fits its bits
bit_at_most : (n : ℕ) (u : Bool) → bit_at n u ≤ 2 ^ n
bit_at_most n u = grind arith

mode_below : (m : Working) → mode_word_as m < 4
mode_below m = grind arith

width_pos : (s : Share) → 0 < width_of s
width_pos s = grind arith

share_below : (s : Share) (x : Channel) → share_of s x < 2 ^ width_of s
unfolding share_of
share_below Mode x = mode_below x.mode
share_below Lines x = omega (arith, bit_at_most 0 x.lines.a.level, bit_at_most 1 x.lines.b.level, bit_at_most 2 x.lines.i.level)
share_below (Single b) x = omega (arith, bit_at_most 0 (bit_of b x))

gathered_below : (s : Share) (cs : List Channel) → length cs ≡ 8 → gathered s cs < 2 ^ (width_of s * 8)
unfolding gathered
gathered_below s cs l = rw l at (word_below (width_of s) (share_of s) cs (share_below s))

-- eight shares that stand from bit f up: a bit that is not another channel's is the channel's or above them
share_same : {k : ℕ} {c d : Card} (s : Share) (f b : ℕ) → k < 8 → Same k c d → others_in k f (width_of s) b ≡ false → f ≤ b
    → word_flag (gathered s c.channels) (b - f) ≡ word_flag (gathered s d.channels) (b - f)
unfolding gathered
share_same {k} {c} {d} s f b h u e l = ⊎_elim
    (λ (m : b < f + 8 * width_of s). own c.channels u.left.eight m
    ∙ ap (λ (x : Channel). word_flag (share_of s x) ((b - f) % width_of s)) u.channel ∙ sym (own d.channels u.right.eight m))
    (λ (m : f + 8 * width_of s ≤ b). above c.channels u.left.eight m ∙ sym (above d.channels u.right.eight m))
    (cases_lt b (f + 8 * width_of s))
  where
    own : (cs : List Channel) → length cs ≡ 8 → b < f + 8 * width_of s → word_flag (gathered s cs) (b - f) ≡ word_flag (share_of s (get_or cs k blank)) ((b - f) % width_of s)
    own cs n m =
        let place : b - f ≡ width_of s * k + (b - f) % width_of s = grind (arith, in_own k f (width_of s) b e l m, div-add-mod' (b - f) (width_of s)) in
        ap (word_flag (gathered s cs)) place
        ∙ word_bit (width_of s) (share_of s) cs blank k ((b - f) % width_of s) (share_below s) (omega arith) (mod_below (b - f) (width_of s) (width_pos s))

    above : (cs : List Channel) → length cs ≡ 8 → f + 8 * width_of s ≤ b → word_flag (gathered s cs) (b - f) ≡ false
    above cs n m = flag_above (gathered s cs) (width_of s * 8) (b - f) (gathered_below s cs n) (omega arith)

byte_same : {k : ℕ} {c d : Card} (s : Share) (b : ℕ) → k < 8 → Same k c d → others_in k 0 (width_of s) b ≡ false
    → word_flag (gathered s c.channels) b ≡ word_flag (gathered s d.channels) b
byte_same s b h u e = simp sub-zero at (share_same s 0 b h u e (omega arith))

-- two words of n bits that agree in bit b, and what stands above them: a share of each channel, a flag
record Both (n b x y : ℕ) : Type 0 where
  pub left : x < 2 ^ n
  pub right : y < 2 ^ n
  pub same : word_flag x b ≡ word_flag y b

join : (x x' y y' n b : ℕ) → x < 2 ^ n → x' < 2 ^ n → word_flag x b ≡ word_flag x' b → (n ≤ b → word_flag y (b - n) ≡ word_flag y' (b - n))
    → word_flag (x + field_at n y) b ≡ word_flag (x' + field_at n y') b
join x x' y y' n b p q low high = ⊎_elim
    (λ l. flag_low x y n b l ∙ low ∙ sym (flag_low x' y' n b l))
    (λ l. flag_high x y n b p l ∙ high l ∙ sym (flag_high x' y' n b q l)) (cases_lt b n)

sum_below : (x y n m : ℕ) → x < 2 ^ n → y < 2 ^ m → x + field_at n y < 2 ^ (m + n)
sum_below x y n m p q = omega (arith, pow-add 2 m n, mul-add-lt y (2 ^ n) x (2 ^ m) q p)

shares : {k b : ℕ} {c d : Card} (s : Share) → k < 8 → Same k c d → others_in k 0 (width_of s) b ≡ false → Both (width_of s * 8) b (gathered s c.channels) (gathered s d.channels)
shares {b = b} {c} {d} s h u e = record {
  left = gathered_below s c.channels u.left.eight;
  right = gathered_below s d.channels u.right.eight;
  same = byte_same s b h u e;
}

with_shares : {k n b x y : ℕ} {c d : Card} (s : Share) → k < 8 → Same k c d → Both n b x y → others_in k n (width_of s) b ≡ false
    → Both (width_of s * 8 + n) b (x + field_at n (gathered s c.channels)) (y + field_at n (gathered s d.channels))
with_shares {n = n} {b} {x} {y} {c} {d} s h u t e = record {
  left = sum_below x (gathered s c.channels) n (width_of s * 8) t.left (gathered_below s c.channels u.left.eight);
  right = sum_below y (gathered s d.channels) n (width_of s * 8) t.right (gathered_below s d.channels u.right.eight);
  same = join x y (gathered s c.channels) (gathered s d.channels) n b t.left t.right t.same (share_same s n b h u e);
}

bit_up : (n : ℕ) (u : Bool) → bit_at n u ≡ field_at n (bit_at 0 u)
bit_up n u = grind arith

flag_of : (u : Bool) (r : ℕ) → word_flag (bit_at 0 u) r ≡ cond (eqb r 0) u false
flag_of u zero = grind arith
flag_of u (suc r) = rw (ne_eqb (suc r) 0 (λ q. omega arith)) (flag_above (bit_at 0 u) 1 (suc r) (omega (arith, bit_at_most 0 u)) (omega arith))

with_flag : {n b x y : ℕ} (m : ℕ) (u v : Bool) → Both n b x y → n ≤ m → (b ≡ m → u ≡ v) → Both (m + 1) b (x + bit_at m u) (y + bit_at m v)
with_flag {n} {b} {x} {y} m u v t l e =
    let p : x < 2 ^ m = omega (arith, pow_mono l) in
    let q : y < 2 ^ m = omega (arith, pow_mono l) in
    let f : m ≤ b → word_flag (bit_at 0 u) (b - m) ≡ word_flag (bit_at 0 v) (b - m) = λ w. grind (arith, nat_tests, flag_of u (b - m), flag_of v (b - m)) in
    record {
      left = omega (arith, pow-add 2 m 1, bit_at_most m u);
      right = omega (arith, pow-add 2 m 1, bit_at_most m v);
      same = rw (bit_up m u, bit_up m v) (join x y (bit_at 0 u) (bit_at 0 v) m b p q t.same f);
    }

pairs : {k b : ℕ} {c d : Card} (x y : Bit) → k < 8 → Same k c d → (others_in k 0 1 b || others_in k 8 1 b) ≡ false → Both 16 b (pair_of x y c.channels) (pair_of x y d.channels)
pairs {k} {b} x y h u e =
    let p = or_parts (others_in k 0 1 b) (others_in k 8 1 b) e in
    with_shares (Single y) h u (shares (Single x) h u p.0) p.1

-- 0x000 Global Control
control_same : {k : ℕ} {c d : Card} (b : ℕ) → k < 8 → Same k c d → (others_in k 0 2 b || others_in k 16 1 b) ≡ false
    → word_flag (word_of_control c) b ≡ word_flag (word_of_control d) b
control_same {k} {c} {d} b h u e =
    let p = or_parts (others_in k 0 2 b) (others_in k 16 1 b) e in
    (with_flag 25 c.shared.test_enabled d.shared.test_enabled
    (with_flag 24 c.shared.timer_triggers d.shared.timer_triggers
    (with_shares (Single SnapshotEnabled) h u (shares Mode h u p.0) p.1)
    (omega arith) (λ _. ap (λ (q : Shared). q.timer_triggers) u.shared))
    (omega arith) (λ _. ap (λ (q : Shared). q.test_enabled) u.shared)).same

-- 0x008 MCR STA
status_below : (s : SnapshotStatus) → status_word s < 4
status_below s = grind arith

status_same : (c d : Card) (b : ℕ) → 2 ≤ b → word_flag (status_word (status_of c)) b ≡ word_flag (status_word (status_of d)) b
status_same c d b l = flag_above (status_word (status_of c)) 2 b (status_below (status_of c)) l ∙ sym (flag_above (status_word (status_of d)) 2 b (status_below (status_of d)) l)

-- 0x154 24 V Input Debouncing
debounce_below : (t : Debounce) → t.time < 65536 → debounce_fields t < 2 ^ 24
debounce_below t h = grind arith

debounce_same : {k : ℕ} {c d : Card} (b : ℕ) → k < 8 → Same k c d → others_in k 24 1 b ≡ false → word_flag (word_of_debounce c) b ≡ word_flag (word_of_debounce d) b
debounce_same {k} {c} {d} b h u e =
    let t : Both 24 b (debounce_fields c.shared.input_debounce) (debounce_fields d.shared.input_debounce)
    = record {
      left = debounce_below c.shared.input_debounce u.left.time;
      right = debounce_below d.shared.input_debounce u.right.time;
      same = ap (λ (q : Shared). word_flag (debounce_fields q.input_debounce) b) u.shared;
    } in
    (with_shares (Single InputDebounced) h u t e).same

-- 0x160 24 V Output Control: one of the two enables is the channel's
enables_same : {k : ℕ} {c d : Card} (b : ℕ) → Same k c d → cond (ltb k 4) (eqb b 1) (eqb b 0) ≡ false
    → word_flag (word_of_enables c.shared) b ≡ word_flag (word_of_enables d.shared) b
enables_same {k} {c} {d} b u e =
    let p = ap (λ (q : Shared). q.low_outputs) u.shared in
    let q = ap (λ (q : Shared). q.high_outputs) u.shared in
    let s : Both 1 b (bit_at 0 c.shared.low_outputs) (bit_at 0 d.shared.low_outputs) = record {
      left = omega (arith, bit_at_most 0 c.shared.low_outputs);
      right = omega (arith, bit_at_most 0 d.shared.low_outputs);
      same = grind (arith, nat_tests, flag_of c.shared.low_outputs b, flag_of d.shared.low_outputs b);
    } in
    (with_flag 1 c.shared.high_outputs d.shared.high_outputs s (omega arith) (λ z. grind (arith, nat_tests))).same

-- 0x168 and the levels: DO under DOEN
mask_bit : (k : ℕ) → k < 8 → (l m : Bool) → word_flag (cond l (cond m 255 15) (cond m 240 0)) k ≡ cond (ltb k 4) l m
mask_bit k h l m = grind (arith, nat_tests, bit_at_ones 8 k, bit_at_ones 4 k, bit_at_ones_above 4 k, bit_at_mask_inside 4 8 k, bit_at_mask_below 4 8 k)

mask_same : {k : ℕ} {c d : Card} → k < 8 → Same k c d → word_flag (mask_of_outputs c.shared) k ≡ word_flag (mask_of_outputs d.shared) k
mask_same {k} {c} {d} h u =
    let p = ap (λ (q : Shared). q.low_outputs) u.shared in
    let q = ap (λ (q : Shared). q.high_outputs) u.shared in
    mask_bit k h c.shared.low_outputs c.shared.high_outputs ∙ grind arith ∙ sym (mask_bit k h d.shared.low_outputs d.shared.high_outputs)

own_place : (k b : ℕ) → others_in k 0 1 b ≡ false → b < 8 → k ≡ b
own_place k b e l = grind (arith, nat_tests)

driven_same : {k : ℕ} {c d : Card} (b : ℕ) → k < 8 → Same k c d → others_in k 0 1 b ≡ false → word_flag (outputs_driven c) b ≡ word_flag (outputs_driven d) b
driven_same {k} {c} {d} b h u e =
    flag_and (gathered (Single Output) c.channels) (mask_of_outputs c.shared) b ∙ ⊎_elim
    (λ (l : b < 8). ap₂ ◌&&◌ (byte_same (Single Output) b h u e)
    (subst (λ t. word_flag (mask_of_outputs c.shared) t ≡ word_flag (mask_of_outputs d.shared) t) (own_place k b e l) (mask_same h u)))
    (λ (l : 8 ≤ b). and_left _ _ (none c.channels u.left.eight l) ∙ sym (and_left _ _ (none d.channels u.right.eight l)))
    (cases_lt b 8)
    ∙ sym (flag_and (gathered (Single Output) d.channels) (mask_of_outputs d.shared) b)
  where
    none : (cs : List Channel) → length cs ≡ 8 → 8 ≤ b → word_flag (gathered (Single Output) cs) b ≡ false
    none cs n l = flag_above (gathered (Single Output) cs) 8 b (gathered_below (Single Output) cs n) l

-- what a tick answers
pub clocks_same : {k : ℕ} {c d : Card} → k < 8 → Same k c d → word_flag (levels_now c).clocks k ≡ word_flag (levels_now d).clocks k
clocks_same {k} h u = byte_same (Single Clock) k h u (own_bit k 0 1 k (omega arith))

pub outputs_same : {k : ℕ} {c d : Card} → k < 8 → Same k c d → word_flag (levels_now c).outputs k ≡ word_flag (levels_now d).outputs k
outputs_same {k} h u = driven_same k h u (own_bit k 0 1 k (omega arith))

-- 0x180 Interrupt Enable
interrupts_same : {k : ℕ} {c d : Card} (b : ℕ) → k < 8 → Same k c d → (others_in k 0 1 b || others_in k 8 1 b) ≡ false
    → word_flag (enables_of_interrupts c) b ≡ word_flag (enables_of_interrupts d) b
interrupts_same {k} {c} {d} b h u e =
    (with_flag 31 c.shared.clear_on_read d.shared.clear_on_read
    (with_flag 20 c.shared.timer_interrupt.enabled d.shared.timer_interrupt.enabled
    (pairs ValidEnabled FaultEnabled h u e) (omega arith) (λ _. ap (λ (q : Shared). q.timer_interrupt.enabled) u.shared))
    (omega arith) (λ _. ap (λ (q : Shared). q.clear_on_read) u.shared)).same

-- 0x188 Interrupt Status: all but EDGE STA
pending_same : {k : ℕ} {c d : Card} (b : ℕ) → k < 8 → Same k c d → (others_in k 0 1 b || others_in k 8 1 b) ≡ false → (b ≡ 21 → ⊥)
    → word_flag (status_of_interrupts c) b ≡ word_flag (status_of_interrupts d) b
pending_same {k} {c} {d} b h u e n =
    (with_flag 21 (has_edge c.channels) (has_edge d.channels)
    (with_flag 20 c.shared.timer_interrupt.pending d.shared.timer_interrupt.pending
    (pairs ValidPending FaultPending h u e) (omega arith) (λ _. ap (λ (q : Shared). q.timer_interrupt.pending) u.shared))
    (omega arith) (λ q. absurd (n q))).same

-- 0x1F0 Test
test_same : {k : ℕ} {c d : Card} (b : ℕ) → k < 8 → Same k c d → (others_in k 0 3 b || others_in k 24 1 b) ≡ false
    → word_flag (word_of_test c.channels) b ≡ word_flag (word_of_test d.channels) b
test_same {k} {c} {d} b h u e =
    let p = or_parts (others_in k 0 3 b) (others_in k 24 1 b) e in
    (with_shares (Single TestOutput) h u (shares Lines h u p.0) p.1).same

-- every shared register
data Agree (b x y : ℕ) : Type 0 where
  agree : word_flag x b ≡ word_flag y b → Agree b x y

agree_if : {b x y x' y' : ℕ} (t : Bool) → (t ≡ true → Agree b x y) → Agree b x' y' → Agree b (cond t x x') (cond t y y')
agree_if true e f = e refl
agree_if false e f = f

agreed : {b x y : ℕ} → Agree b x y → word_flag x b ≡ word_flag y b
agreed (agree e) = e

pub register_same : {k : ℕ} {c d : Card} (o b : ℕ) → k < 8 → Same k c d → named_for_others k o b ≡ false → tells_of_all o b ≡ false
    → word_flag (register_word o c) b ≡ word_flag (register_word o d) b
register_same {k} {c} {d} o b h u e a =
    agreed (agree_if (eqb o 0) (λ t. agree (control_same b h u (named 0 t))) (
    agree_if (eqb o 8) (λ t. agree (status_same c d b (ltb-false b 2 (or_parts (ltb b 2) false (tells 8 t)).0))) (
    agree_if (eqb o 336) (λ t. agree (byte_same (Single Input) b h u (named 336 t))) (
    agree_if (eqb o 340) (λ t. agree (debounce_same b h u (named 340 t))) (
    agree_if (eqb o 352) (λ t. agree (enables_same b u (named 352 t))) (
    agree_if (eqb o 356) (λ t. agree (byte_same (Single Output) b h u (named 356 t))) (
    agree_if (eqb o 360) (λ t. agree (driven_same b h u (named 360 t))) (
    agree_if (eqb o 368) (λ t. agree (ap (λ (q : Shared). word_flag (timer_word q.timer) b) u.shared)) (
    agree_if (eqb o 372) (λ t. agree (ap (λ (q : Shared). word_flag q.timer.preload b) u.shared)) (
    agree_if (eqb o 376) (λ t. agree (ap (λ (q : Shared). word_flag q.timer.left b) u.shared)) (
    agree_if (eqb o 384) (λ t. agree (interrupts_same b h u (named 384 t))) (
    agree_if (eqb o 388) (λ t. agree (pairs RisingEnabled FallingEnabled h u (named 388 t)).same) (
    agree_if (eqb o 392) (λ t. agree (pending_same b h u (named 392 t) (eqb-false b 21 (tells 392 t)))) (
    agree_if (eqb o 396) (λ t. agree (pairs RisingPending FallingPending h u (named 396 t)).same) (
    agree_if (eqb o 496) (λ t. agree (test_same b h u (named 496 t))) (
    agree_if (eqb o 500) (λ t. agree (refl)) (
    agree_if (eqb o 504) (λ t. agree (ap (λ (q : Shared). word_flag q.scratchpad b) u.shared)) (
    agree_if (eqb o 508) (λ t. agree refl) (agree refl)))))))))))))))))))
  where
    named : (n : ℕ) → eqb o n ≡ true → named_for_others k n b ≡ false
    named n t = subst (λ q. named_for_others k q b ≡ false) (eqb-true o n t) e

    tells : (n : ℕ) → eqb o n ≡ true → tells_of_all n b ≡ false
    tells n t = subst (λ q. tells_of_all q b ≡ false) (eqb-true o n t) a
