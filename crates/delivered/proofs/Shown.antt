-- What a host reads of one channel: BSY and the Data Register.
use Rattle.std.proofs.Common.{◌≡◌, ℕ, ◌+◌, ◌*◌, ◌%◌, ◌<◌, Ok, refl, ap, ◌∙◌, arith}
use Rattle.std.proofs.lemmas.Grind.{common_steps}
use Rattle.bits.specs.Words.{word_flag}
use Rattle.channel.specs.declared.channel.Channel.{Channel}
use Rattle.channel.specs.declared.mode.Mode.{Mode}
use Rattle.channel.specs.Registers.{data_shown, register_shown, ssi_status_shown_as}
use Rattle.channel.specs.Snapshots.{transmits, transmits_as}
use Rattle.card.specs.Calls.{Card, read_done, value_of}
use Rattle.card.specs.Records.{channel_of}
use Rattle.rig.specs.Benches.{Bench}
use Rattle.delivered.specs.Delivery.{bit_read, busy, data_at, read_at}

-- a register of channel k's span
read_own : (k o : ℕ) (c : Card) → k < 8 → o < 40 → o % 4 ≡ 0 → value_of (read_done c (16 + o + 40 * k)) ≡ Ok (register_shown o (channel_of k c))
unfolding read_done
read_own k o c l w m = grind (arith, common_steps)

-- BSY is the lowest bit of the status word
status_busy : (m : Mode) (h : Channel) → word_flag (ssi_status_shown_as m h) 0 ≡ transmits_as m
status_busy m h = grind (arith, common_steps)

pub busy_is : (k : ℕ) (b : Bench) → k < 8 → busy k b ≡ transmits (channel_of k b.card)
unfolding register_shown
busy_is k b l =
    ap (λ r. bit_read r 0) (read_own k 4 b.card l (omega arith) refl) ∙ status_busy (channel_of k b.card).mode (channel_of k b.card)

pub data_is : (k : ℕ) (b : Bench) → k < 8 → read_at b (data_at k) ≡ Ok (data_shown (channel_of k b.card))
unfolding register_shown
data_is k b l = read_own k 32 b.card l (omega arith) refl
