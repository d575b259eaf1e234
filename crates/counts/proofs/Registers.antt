-- What accesses to a channel's own registers make of its part in the law of counts.
use Rattle.std.proofs.Common.{◌≡◌, ℕ, cond, eqb, arith}
use Rattle.std.proofs.lemmas.Bool.Decides.{nat_tests}
use Rattle.filter.specs.Debounces.{debounce_of, period_of}
use Rattle.counter_count.specs.Counts.{commanded, control_written, preloaded}
use Rattle.counter.specs.Registers as register
use Rattle.channel.specs.declared.channel.Channel.{Channel}
use Rattle.channel.specs.Lines.{lines_restarted}
use Rattle.channel.specs.Registers.{register_taken, register_written}
use Rattle.counts.specs.Tallies.{in_counter_mode as when_counting}
use Rattle.counts.proofs.Parts.{Part, part, requested_part, with_count}

-- the filters restart with a period
abbrev pub part_debounced : ℕ → Part → Part
part_debounced v p = record { lines = lines_restarted (period_of (debounce_of v)) p.lines; mode = p.mode; count = p.count }

abbrev pub part_commanded : ℕ → Part → Part
part_commanded v p = with_count (when_counting p.mode (commanded v p.count) p.count) p

-- a write at a place in the channel's span
abbrev pub part_written : ℕ → ℕ → Part → Part
part_written o v p =
    cond (eqb o 8) (with_count (control_written v p.count) p) (
    cond (eqb o 16) (with_count (preloaded v p.count) p) (
    cond (eqb o 24) (part_commanded v p) (
    cond (eqb o 28) (part_debounced v p) p)))

pub written_part : (o v : ℕ) (c : Channel) → part (register_written o v c) ≡ part_written o v (part c)
unfolding register_written register.control_written register.status_cleared register.preload_written register.compare_written register.commanded
written_part o v c = grind (arith, nat_tests, requested_part)

pub taken_part : (o : ℕ) (c : Channel) → part (register_taken o c) ≡ part c
unfolding register_taken register.data_read
taken_part o c = grind arith
