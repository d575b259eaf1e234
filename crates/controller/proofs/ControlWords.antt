-- An accepted control word reads as it was written.
use Rattle.std.proofs.Common.{◌≡◌, ℕ, ◌*◌, ◌/◌, ◌%◌, ◌^◌, ◌<◌, ◌≤◌, false, ltb, arith}
use Rattle.std.proofs.lemmas.Bool.{eqb-false, ltb-false, or_parts}
use Rattle.std.proofs.lemmas.Bool.Decides.{nat_tests}
use Rattle.bits.specs.Words.{word_field, word_flag, bit_at}
use Rattle.frame.specs.Numbers.{code_at, code_number, span_at}
use Rattle.controller.specs.Control.{check_field, start_at, start_number}
use Rattle.controller.specs.Timing.{ControlReadsBack}

-- a field that names a setting is given back
check_back : (n : ℕ) → n < 4 → check_field (span_at n) ≡ n
check_back n h = grind (arith, nat_tests)

code_back : (n : ℕ) → n < 2 → code_number (code_at n) ≡ n
code_back n h = grind (arith, nat_tests)

start_back : (n : ℕ) → n < 2 → start_number (start_at n) ≡ n
start_back n h = grind (arith, nat_tests)

-- a bit is put back where it was
bit_back : (w k : ℕ) → bit_at k (word_flag w k) ≡ w / 2 ^ k % 2 * 2 ^ k
bit_back w k = grind (arith, nat_tests)

pub control_reads_back_lem : ControlReadsBack
control_reads_back_lem w h ok =
    let q = or_parts (word_flag w 24) (ltb 1 (word_field w 25 2)) ok in
    let listen : word_flag w 24 ≡ false = q.0 in
    let start : word_field w 25 2 ≤ 1 = ltb-false 1 (word_field w 25 2) q.1 in
    let c = check_back (word_field w 20 2) (omega arith) in
    let g = code_back (word_field w 23 1) (omega arith) in
    let t = start_back (word_field w 25 1) (omega arith) in
    omega (arith, c, g, t, bit_back w 22, eqb-false _ _ listen)
