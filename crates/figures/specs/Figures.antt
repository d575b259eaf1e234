-- The worked figures, one list.
use Rattle.std.specs.Prelude.{Bool, true, false, List, ◌++◌, ◌≡◌, ℕ, replicate}
use Rattle.filter.specs.Debounces.{period_of, reset}
use Rattle.filter.specs.Filters.{new_timing, no_samples}
use Rattle.filter.specs.Settling.{filtered_over}
use Rattle.frame.specs.declared.format.Code.TheVariants.{Gray}
use Rattle.frame.specs.Layout.{decoded_as}
use Rattle.controller.specs.Control.{control_of}
use Rattle.controller.specs.Registers.{half_period}
use Rattle.tally.specs.Laws.{Figures}

-- the level of a line at power-on after a tick for each of these levels on it
abbrev pub seen_after : List Bool → Bool
seen_after xs = (filtered_over (new_timing (period_of reset)) no_samples xs).level

pub record WorkedFigures : Type 0 where
  -- CR 4095 gives half a clock period of 12 ticks
  pub half : half_period (control_of 4095) ≡ 12
  -- at reset a filter samples every 3 ticks: a line high from tick 1 is seen at tick 9, and not at tick 8
  pub period : period_of reset ≡ 3
  pub unseen : seen_after (replicate 8 true) ≡ false
  pub seen : seen_after (replicate 9 true) ≡ true
  -- low again in tick 9, it is never seen
  pub never : (n : ℕ) → seen_after (replicate 8 true ++ replicate n false) ≡ false
  -- a quadrature cycle counts 4, 2 and 1; 0xFFFFFFFF plus 1 is 0 with CRY; Divide-by-N with preload 5 takes 0 down to 5 with BOR; Single Cycle stops at 0
  pub counting : Figures
  -- Gray 1101 is 9
  pub nine : decoded_as Gray 13 ≡ 9
