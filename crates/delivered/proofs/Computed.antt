-- The example, computed.
use Rattle.std.proofs.Common.{◌≡◌, ℕ, zero, suc, Bool, true, cond, ◌&&◌, eqb, replicate, IfSome, Some, None, refl, arith}
use Rattle.std.proofs.lemmas.Bool.{and_parts, ne_eqb}
use Rattle.filter.specs.Filters.{samples_in, ticked}
use Rattle.frame.specs.Layout.{word_of_frame, reading_of}
use Rattle.controller.specs.Phase.{phase_ticked}
use Rattle.controller.specs.Registers.{control_written, requested, phase_requested, completion, ticked as ssi_ticked}
use Rattle.sensor.specs.Range.{in_range}
use Rattle.sensor.specs.Model.{Sound, advanced, level_of, turned}
use Rattle.field.specs.Wiring.{at_channel, plugged}
use Rattle.rig_parts.specs.Clocks.{clocked}
use Rattle.rig_parts.specs.Lines.{composed}
use Rattle.channel.specs.Registers.{register_shown, register_taken, register_written}
use Rattle.channel.specs.Shares.{bit_of, performed, share_of}
use Rattle.channel.specs.Ticks.{channel_ticked}
use Rattle.table.specs.Tables.{acted, gathered, table_ticked}
use Rattle.card.specs.Calls.{powered_on, read_done, tick_done, tick_levels, write_done}
use Rattle.rig.specs.declared.calls.RigCall.TheVariants.{Tick, Turn}
use Rattle.rig.specs.Benches.{Bench, step_on}
use Rattle.delivered.specs.Delivery.{UnderWay, begun_on, busy}
use Rattle.delivered.specs.Example.{at_two, course, two_plugs, DeliversTwo}

-- whether channel 0 is busy now and after each of n rig ticks
abbrev all_busy : ℕ → Bench → Bool
all_busy zero b = busy 0 b
all_busy (suc n) b = busy 0 b && all_busy n (step_on b (Tick 0 0))

under_ticks : (n : ℕ) (b : Bench) → all_busy n b ≡ true → UnderWay 0 b (replicate n (Tick 0 0))
under_ticks zero b e = e
under_ticks (suc n) b e = let p = and_parts (busy 0 b) (all_busy n (step_on b (Tick 0 0))) e in (p.0, tt, under_ticks n (step_on b (Tick 0 0)) p.1)

at_two_sound : Sound at_two
unfolding in_range
at_two_sound = record { ranged = refl; below = omega arith; within = omega arith }

sound_or_none : (a b : Bool) → IfSome (cond a (Some at_two) (cond b (Some at_two) None)) Sound
sound_or_none a b =
    let s = at_two_sound in
    grind arith

pub delivers_two : DeliversTwo
unfolding plugged samples_in ticked word_of_frame reading_of phase_ticked control_written requested phase_requested completion ssi_ticked advanced level_of turned at_channel clocked composed register_shown register_taken register_written bit_of performed share_of channel_ticked acted gathered table_ticked powered_on read_done tick_done tick_levels write_done
delivers_two = record {
  sounds = record { each = λ k. sound_or_none (eqb k 0) (eqb k 3); above = λ k h. rw (ne_eqb k 0 (λ e. omega arith), ne_eqb k 3 (λ e. omega arith)) refl };
  completes = record {
    quiet = refl;
    accepted = refl;
    fits = record { plugged = refl; idle = refl; clock = refl; format = refl; slow = omega arith };
    underway = (refl, tt, (refl, tt, under_ticks 559 (step_on (step_on (begun_on two_plugs course) (Turn 0 1)) (Turn 3 1)) refl));
    over = refl;
  };
  two = refl;
}
