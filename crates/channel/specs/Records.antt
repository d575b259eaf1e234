-- A channel's record with one part replaced.
use Rattle.std.specs.Prelude.{Bool}
use Rattle.filter.specs.declared.debounce.Debounce.{Debounce}
use Rattle.counter.specs.declared.counter.Counter.{Counter}
use Rattle.controller.specs.declared.registers.Ssi.{Ssi}
use Rattle.parts.specs.declared.input.Input.{Input}
use Rattle.parts.specs.declared.interrupt.Interrupt.{Interrupt}
use Rattle.parts.specs.declared.snapshot.Snapshot.{Snapshot}
use Rattle.channel.specs.declared.lines.Lines.{Lines}
use Rattle.channel.specs.declared.mode.Mode.{Mode}
use Rattle.channel.specs.declared.channel.Channel.{Channel}

-- the parts that work: mode, counter, SSI registers, snapshot and interrupts
abbrev pub working : Channel → Mode → Counter → Ssi → Snapshot → Interrupt → Interrupt → Channel
working c m n s p v f = record {
  lines = c.lines;
  debounce = c.debounce;
  input = c.input;
  mode = m;
  counter = n;
  ssi = s;
  snapshot = p;
  valid = v;
  fault = f;
  output = c.output;
  test_output = c.test_output;
}

-- the parts that see the field
abbrev pub seeing : Channel → Lines → Debounce → Input → Channel
seeing c l d i = record {
  lines = l;
  debounce = d;
  input = i;
  mode = c.mode;
  counter = c.counter;
  ssi = c.ssi;
  snapshot = c.snapshot;
  valid = c.valid;
  fault = c.fault;
  output = c.output;
  test_output = c.test_output;
}

abbrev pub with_mode : Mode → Channel → Channel
with_mode m c = working c m c.counter c.ssi c.snapshot c.valid c.fault

abbrev pub with_counter : Counter → Channel → Channel
with_counter n c = working c c.mode n c.ssi c.snapshot c.valid c.fault

abbrev pub with_ssi : Ssi → Channel → Channel
with_ssi s c = working c c.mode c.counter s c.snapshot c.valid c.fault

abbrev pub with_snapshot : Snapshot → Channel → Channel
with_snapshot p c = working c c.mode c.counter c.ssi p c.valid c.fault

abbrev pub with_interrupts : Interrupt → Interrupt → Channel → Channel
with_interrupts v f c = working c c.mode c.counter c.ssi c.snapshot v f

abbrev pub with_input : Input → Channel → Channel
with_input i c = seeing c c.lines c.debounce i

abbrev pub with_outputs : Bool → Bool → Channel → Channel
with_outputs o t c = record {
  lines = c.lines;
  debounce = c.debounce;
  input = c.input;
  mode = c.mode;
  counter = c.counter;
  ssi = c.ssi;
  snapshot = c.snapshot;
  valid = c.valid;
  fault = c.fault;
  output = o;
  test_output = t;
}
