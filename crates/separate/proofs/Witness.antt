-- The two lists of the example, computed.
use Rattle.std.proofs.Common.{zero, suc, sym, refl, ◌∙◌, arith}
use Rattle.filter.specs.Filters.{samples_in, ticked}
use Rattle.controller.specs.Phase.{phase_ticked}
use Rattle.controller.specs.Registers.{completion, phase_requested, requested, ticked as ssi_ticked}
use Rattle.counter_control.specs.Words.{decoded}
use Rattle.counter_count.specs.Ticks.{advanced, advance_outcome}
use Rattle.counter.specs.Counters.{tick_causes, ticked as counter_ticked}
use Rattle.counter.specs.Registers.{control_answer, control_written, data_read, data_word, entered, left, status_shown}
use Rattle.channel.specs.Registers.{register_shown, register_taken, register_written}
use Rattle.channel.specs.Shares.{bit_of, performed, share_of}
use Rattle.channel.specs.Ticks.{channel_ticked}
use Rattle.table.specs.Tables.{acted, gathered, table_ticked}
use Rattle.card.specs.Calls.{powered_on, read_done, tick_done, tick_levels, write_done}
use Rattle.separate.specs.Separation.{SameFor, elsewhere, more, none, reads, ticks, writes}
use Rattle.separate.specs.Example.{AlikeForOne}
use Rattle.separate.proofs.Words.{flag_high}

-- the two words for Global Control differ in bit 0, which is MODE of channel 0
modes_differ : SameFor 1 0 8 9
modes_differ zero e = absurd cc
modes_differ (suc b) e = flag_high 0 4 1 (suc b) (omega arith) (omega arith) ∙ sym (flag_high 1 4 1 (suc b) (omega arith) (omega arith))

pub alike_for_one : AlikeForOne
unfolding samples_in ticked phase_ticked completion phase_requested requested ssi_ticked decoded advanced advance_outcome tick_causes counter_ticked control_answer control_written data_read data_word entered left status_shown register_shown register_taken register_written bit_of performed share_of channel_ticked acted gathered table_ticked powered_on read_done tick_done tick_levels write_done
alike_for_one = (
  more (writes refl modes_differ) (more (writes refl (λ b e. refl)) (more (ticks refl refl refl refl) (more (elsewhere refl refl)
      (more (ticks refl refl refl refl) (more (reads refl) (more (reads refl) none)))))),
  refl,
  refl,
)
