-- A tick of the lines in which no sample tells anything new.
use Rattle.std.proofs.Common.{◌≡◌, ℕ, Bool, true, false, cond, not, ◌&&◌, Some, None, Option, sym, refl, ap, arith}
use Rattle.counter_count.specs.declared.levels.Levels.{Levels}
use Rattle.filter.specs.declared.timing.FilterTiming.{FilterTiming}
use Rattle.filter.specs.Filters.{samples_in, steady_at, ticked}
use Rattle.filter.proofs.Steady.{steady_filtered}
use Rattle.parts.specs.declared.input.Input.{Input}
use Rattle.parts.specs.Inputs.{input_ticked}
use Rattle.channel.specs.declared.channel.Channel.{Channel}
use Rattle.channel.specs.declared.lines.Lines.{Lines}
use Rattle.channel.specs.Lines.{former_levels, levels_before, levels_of, lines_steady, lines_ticked}
use Rattle.channel.specs.Records.{seeing}
use Rattle.channel.specs.Ticks.{channel_ticked, worked}

all_true : (p q r : Bool) → p && (q && r) ≡ true → (p ≡ true) × ((q ≡ true) × (r ≡ true))
all_true true true true e = (refl, (refl, refl))
all_true true true false e = let z : ◌≡◌ {A = ℕ} 0 1 = cc in absurd (omega arith)
all_true true false r e = let z : ◌≡◌ {A = ℕ} 0 1 = cc in absurd (omega arith)
all_true false q r e = let z : ◌≡◌ {A = ℕ} 0 1 = cc in absurd (omega arith)

-- only the filters' clock goes on
abbrev pub clocked : FilterTiming → Lines → Lines
clocked t l = record { timing = t; a = l.a; b = l.b; i = l.i }

pub steady_ticked : (x : Levels) (l : Lines) → lines_steady x l ≡ true → clocked (ticked l.timing) l ≡ lines_ticked x l
steady_ticked x l e =
    let h = all_true (steady_at x.a l.a) (steady_at x.b l.b) (steady_at x.i l.i) e in
    let due = samples_in l.timing in
    sym (rw (sym (steady_filtered due x.a l.a h.0), sym (steady_filtered due x.b l.b h.1.0), sym (steady_filtered due x.i l.i h.1.1)) refl)

pub steady_former : (x : Levels) (l : Lines) → lines_steady x l ≡ true → None ≡ former_levels x l
steady_former x l e = go (samples_in l.timing) (lines_steady x l) e
  where
    go : (due steady : Bool) → steady ≡ true → None ≡ cond (due && not steady) (Some (levels_of l)) None
    go true true q = refl
    go true false q = let z : ◌≡◌ {A = ℕ} 0 1 = cc in absurd (omega arith)
    go false steady q = refl

-- what a tick tells, with the levels after it, gives the levels before it
pub before_ticked : (x : Levels) (l : Lines) → levels_before (former_levels x l) (levels_of (lines_ticked x l)) ≡ levels_of l
before_ticked x l = go (samples_in l.timing) (lines_steady x l) refl refl
  where
    go : (due steady : Bool) → samples_in l.timing ≡ due → lines_steady x l ≡ steady
        → levels_before (cond (due && not steady) (Some (levels_of l)) None) (levels_of (lines_ticked x l)) ≡ levels_of l
    go true true d e = ap levels_of (sym (steady_ticked x l e))
    go true false d e = refl
    go false steady d e = rw d refl

-- the tick of a channel, from what its lines told
pub told_ticked : (x : Levels) (i expired : Bool) (c : Channel) (former : Option Levels) (after : Levels) (l : Lines) (n : Input)
    → former ≡ former_levels x c.lines → after ≡ levels_of l → l ≡ lines_ticked x c.lines
    → n ≡ input_ticked i c.input → worked (levels_before former after) after expired (seeing c l c.debounce n) ≡ channel_ticked x i expired c
unfolding channel_ticked
told_ticked x i expired c former after l n p a q r = rw (a, p, q, r, before_ticked x c.lines) refl
