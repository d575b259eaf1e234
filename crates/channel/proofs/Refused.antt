-- A refused write leaves the channel as it was.
use Rattle.std.proofs.Common.{◌≡◌, ℕ, Bool, true, false, cond, eqb, Ok, Err, Result, refl, ap, arith}
use Rattle.refusal.specs.declared.Refusal.{Refusal}
use Rattle.refusal.specs.declared.Refusal.TheVariants.{Setting}
use Rattle.counter_control.specs.declared.control.Control.{Control}
use Rattle.counter_control.specs.Words.{decoded}
use Rattle.counter_count.specs.Counts.{settled}
use Rattle.counter.specs.declared.counter.Counter.{Counter}
use Rattle.counter.specs.Registers.{control_answer, control_written, flags_settled, settled_answer}
use Rattle.controller.specs.Control.{control_of, control_refused}
use Rattle.controller.specs.declared.registers.Ssi.{Ssi}
use Rattle.controller.specs.Registers.{control_answer as ssi_control_answer, control_written as ssi_control_written, with_control}
use Rattle.channel.specs.declared.channel.Channel.{Channel}
use Rattle.channel.specs.Records.{with_counter, with_ssi}
use Rattle.channel.specs.Registers.{register_answer, register_written}

-- a counter with the settings of a decoded word
abbrev settled_to : Result Control Refusal → Counter → Counter
settled_to r n = record {
  count = settled r n.count;
  compare = n.compare;
  latched = n.latched;
  flags = flags_settled r n.count.control.index n.flags;
}

settled_leaves : (r : Result Control Refusal) (n : Counter) (e : Refusal) → settled_answer r ≡ Err e → settled_to r n ≡ n
settled_leaves (Ok k) n e q = let z : ◌≡◌ {A = ℕ} 0 1 = cc in absurd (omega arith)
settled_leaves (Err x) n e q = refl

pub counter_leaves : (v : ℕ) (n : Counter) (e : Refusal) → control_answer v ≡ Err e → control_written v n ≡ n
unfolding control_answer control_written
counter_leaves v n e q = settled_leaves (decoded v) n e q

ssi_settled : (b : Bool) (v : ℕ) (s : Ssi) (e : Refusal) → cond {A = Result (Unit {0}) Refusal} b (Err Setting) (Ok tt) ≡ Err e
    → cond b s (with_control s (control_of v)) ≡ s
ssi_settled true v s e q = refl
ssi_settled false v s e q = let z : ◌≡◌ {A = ℕ} 0 1 = cc in absurd (omega arith)

pub ssi_leaves : (v : ℕ) (s : Ssi) (e : Refusal) → ssi_control_answer v ≡ Err e → ssi_control_written v s ≡ s
unfolding ssi_control_written
ssi_leaves v s e q = ssi_settled (control_refused v) v s e q

-- what the first two tests of a write give
at_control : (x y : Bool) (v : ℕ) (c w : Channel) (e : Refusal)
    → cond x (ssi_control_answer v) (cond y (control_answer v) (Ok tt)) ≡ Err e
    → cond x (with_ssi (ssi_control_written v c.ssi) c) (cond y (with_counter (control_written v c.counter) c) w) ≡ c
at_control true y v c w e q = ap (λ (s : Ssi). with_ssi s c) (ssi_leaves v c.ssi e q)
at_control false true v c w e q = ap (λ (n : Counter). with_counter n c) (counter_leaves v c.counter e q)
at_control false false v c w e q = let z : ◌≡◌ {A = ℕ} 0 1 = cc in absurd (omega arith)

pub refused_leaves : (o v : ℕ) (c : Channel) (e : Refusal) → register_answer o v ≡ Err e → register_written o v c ≡ c
unfolding register_written
refused_leaves o v c e q = at_control (eqb o 0) (eqb o 8) v c _ e q
