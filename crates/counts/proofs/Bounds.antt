-- A tally's preload has 32 bits, since what a host writes has.
use Rattle.std.proofs.Common.{◌≡◌, ℕ, ◌^◌, ◌<◌, arith}
use Rattle.std.proofs.lemmas.Bool.Decides.{nat_tests}
use Rattle.runs.specs.declared.Call.{Call}
use Rattle.runs.specs.declared.Call.TheVariants.{Tick, Read, Write}
use Rattle.tally.specs.Tally.{Tally}
use Rattle.tally.proofs.Stands.{tally_stands_lem}
use Rattle.counts.specs.Tallies.{ChannelTally, Setting, in_counter_mode, tally_step}
use Rattle.counts.specs.Laws.{Fits}

abbrev pub Small : ChannelTally → Type 0
Small t = t.counter.preload < 2 ^ 32

small_when : (s : Setting) (new old : Tally) → new.preload ≡ old.preload → old.preload < 2 ^ 32 → (in_counter_mode s new old).preload < 2 ^ 32
small_when s new old e b = grind arith

pub step_bound : (k : ℕ) (x : Call) (t : ChannelTally) → Fits x → Small t → Small (tally_step k t x)
step_bound k (Tick lines inputs) t f b = small_when t.mode _ t.counter (tally_stands_lem.tick_keeps _ _ t.counter) b
step_bound k (Read o) t f b = b
step_bound k (Write o v) t f b =
    grind (arith, nat_tests, tally_stands_lem.control_keeps v t.counter, tally_stands_lem.command_keeps v t.counter, tally_stands_lem.load_keeps t.counter)
