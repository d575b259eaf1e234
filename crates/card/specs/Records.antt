-- The card's record with one part replaced, and one record of its table.
use Rattle.std.specs.Prelude.{ℕ, false, None, List, slice_index_or, slice_set}
use Rattle.filter.specs.declared.debounce.TimeBase.TheVariants.{Ns30}
use Rattle.filter.specs.Filters.{new_timing, no_samples}
use Rattle.frame.specs.declared.format.Code.TheVariants.{Binary}
use Rattle.counter.specs.Counters.{power_on_counter}
use Rattle.controller.specs.declared.control.Start.TheVariants.{Request}
use Rattle.parts.specs.Interrupts.{quiet}
use Rattle.parts.specs.Snapshots.{emptied}
use Rattle.channel.specs.declared.channel.Channel.{Channel}
use Rattle.channel.specs.declared.mode.Mode.TheVariants.{Off}
use Rattle.channel.specs.declared.mode.OffCode.TheVariants.{Zeros}
use Rattle.channel.specs.Lines.{new_lines}
use Rattle.card.specs.declared.Card.{Card}
use Rattle.card.specs.declared.shared.Shared.{Shared}

abbrev pub with_shared : Shared → Card → Card
with_shared s c = record { channels = c.channels; shared = s }

abbrev pub with_table : List Channel → Card → Card
with_table cs c = record { channels = cs; shared = c.shared }

-- a record of zeros, which no access ever reads: the table has all eight places
abbrev pub blank : Channel
blank = record {
  lines = new_lines 0;
  debounce = record { base = Ns30; time = 0 };
  input = record { timing = new_timing 0; samples = no_samples; debounced = false; rising = quiet; falling = quiet };
  mode = Off Zeros;
  counter = power_on_counter;
  ssi = record {
    control = record { rate = 0; data_bits = 0; extra_bits = 0; check = None; odd = false; code = Binary; start = Request; delay = 0 };
    while_busy = false;
    extra_status = 0;
    fault = false;
    parity_status = false;
    parity_error = false;
    word = 0;
  };
  snapshot = emptied;
  valid = quiet;
  fault = quiet;
  output = false;
  test_output = false;
}

-- the record of channel k
abbrev pub channel_of : ℕ → Card → Channel
channel_of k c = slice_index_or c.channels k blank

-- the card with another record for channel k
abbrev pub with_channel : ℕ → Channel → Card → Card
with_channel k x c = with_table (slice_set c.channels k x) c
