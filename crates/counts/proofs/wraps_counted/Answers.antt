use Rattle.std.proofs.Common.{refl, rules}
use Rattle.filter.specs.Filters.{samples_in, ticked}
use Rattle.counter_control.specs.Words.{decoded}
use Rattle.counter_count.specs.Ticks.{advanced, advance_outcome}
use Rattle.counter.specs.Counters as counter
use Rattle.counter.specs.Registers.{commanded, control_answer, control_written, data_read, entered, preload_loaded, preload_written}
use Rattle.channel.specs.Registers.{register_taken, register_written}
use Rattle.channel.specs.Shares.{performed}
use Rattle.channel.specs.Ticks.{channel_ticked}
use Rattle.table.specs.Tables.{acted, table_ticked}
use Rattle.card.specs.Calls.{powered_on, read_done, tick_done, write_done}
use Rattle.counts.proofs.wraps_counted.Goals as goal

pub returns : goal.returns
unfolding samples_in ticked decoded advanced advance_outcome counter.ticked commanded control_answer control_written data_read entered preload_loaded preload_written register_taken register_written performed channel_ticked acted table_ticked powered_on read_done tick_done write_done
returns c = record {
  up_fits = search rules;
  up_load = refl;
  up_sum = refl;
  up_count = refl;
  up_others = refl;
  down_fits = search rules;
  down_load = refl;
  down_sum = refl;
  down_count = refl;
}
