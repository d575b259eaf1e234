-- What a read of a channel's Data Register answers in Counter Mode.
use Rattle.std.proofs.Common.{◌≡◌, ℕ, ◌%◌, ◌<◌, false, Ok, ap, ◌∙◌, arith}
use Rattle.std.proofs.lemmas.Bool.Decides.{nat_tests}
use Rattle.counter.specs.Counters.{latches}
use Rattle.counter.specs.Registers.{data_word}
use Rattle.channel.specs.declared.mode.Mode.{Mode}
use Rattle.channel.specs.declared.channel.Channel.{Channel}
use Rattle.channel.specs.Records.{with_mode}
use Rattle.channel.specs.Registers.{register_shown}
use Rattle.card.specs.Calls.{Card, powered_on, read_done, value_of}
use Rattle.card.specs.Records.{channel_of}
use Rattle.runs.specs.declared.Answer.TheVariants.{Value}
use Rattle.runs.specs.Runs.{run}
use Rattle.counts.specs.Tallies.{counting, register_at}
use Rattle.counts.specs.Laws.{CountsRead}
use Rattle.counts.proofs.Counted.{counts_stand_lem, tally_shown}
use Rattle.counts.proofs.Parts.{Part, setting_of}

-- a read of channel k's register at the place q
reads_own : (k q : ℕ) (c : Card) → k < 8 → q < 40 → q % 4 ≡ 0 → value_of (read_done c (register_at k q)) ≡ Ok (register_shown q (channel_of k c))
unfolding read_done
reads_own k q c h l m = grind (arith, nat_tests)

data_shown_lem : (m : Mode) (c : Channel) → setting_of m ≡ counting → latches c.counter.count.control.index ≡ false
    → register_shown 32 (with_mode m c) ≡ c.counter.count.value
unfolding register_shown data_word
data_shown_lem m c e l = grind arith

pub counts_read_lem : CountsRead
counts_read_lem k h xs f m l =
    let c = run powered_on xs in
    let x = channel_of k c in
    let s = tally_shown k h xs f in
    ap Value (reads_own k 32 c h (omega arith) (omega arith)
    ∙ ap Ok (data_shown_lem x.mode x (ap (λ (p : Part). p.mode) s ∙ m) (ap (λ (p : Part). latches p.count.control.index) s ∙ l)
    ∙ counts_stand_lem k h xs f))
