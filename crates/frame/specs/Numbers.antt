-- The numbers by which a field of a register names a code and what parity covers.
use Rattle.std.specs.Prelude.{◌≡◌, refl, ℕ, cond, ◌==◌, Option, Some, None}
use Rattle.frame.specs.declared.format.Code.{Code}
use Rattle.frame.specs.declared.format.Code.TheVariants.{Binary, Gray}
use Rattle.frame.specs.declared.format.Span.{Span}
use Rattle.frame.specs.declared.format.Span.TheVariants.{Data, Extra, Both}

-- 1 is Gray code
abbrev pub code_at : ℕ → Code
code_at n = cond (n == 1) Gray Binary

abbrev pub code_number : Code → ℕ
code_number Binary = 0
code_number Gray = 1

pub code_reads_back : (c : Code) → code_at (code_number c) ≡ c
code_reads_back Binary = refl
code_reads_back Gray = refl

-- 1 to 3 are data bits, extra bits and both
abbrev pub span_at : ℕ → Option Span
span_at n = cond (n == 0) None (cond (n == 1) (Some Data) (cond (n == 2) (Some Extra) (Some Both)))

abbrev pub span_number : Span → ℕ
span_number Data = 1
span_number Extra = 2
span_number Both = 3
