-- A write that a channel refuses leaves the card as it was.
use Rattle.std.proofs.Common.{◌≡◌, ℕ, ◌<◌, ◌≤◌, true, List, IsErrAnd, Ok, Err, Result, refl, ap, ◌∙◌}
use Rattle.std.proofs.lemmas.List.{set-get_or}
use Rattle.std.proofs.lemmas.Bool.{le-leb, lt-ltb}
use Rattle.refusal.specs.declared.Refusal.{Refusal}
use Rattle.channel.specs.declared.channel.Channel.{Channel}
use Rattle.channel.specs.Registers.{register_answer, register_written}
use Rattle.channel.proofs.Refused.{refused_leaves}
use Rattle.card.specs.Calls.{Card, write_done}
use Rattle.card.specs.Records.{channel_of, with_channel}
use Rattle.card.specs.Registers.{channel_at, in_channels, offset_checked, place_at}

-- what `?` gives back where nothing is converted
pub exit_is : (r : Result (Unit {0}) Refusal) {f : Refusal} → IsErrAnd r (λ y. y ≡ f) → r ≡ Err f
exit_is (Ok x) h = absurd h
exit_is (Err e) h = ap (λ y. Err y) h

in_span : (o : ℕ) → 16 ≤ o → o < 336 → in_channels o ≡ true
in_span o l h = rw (le-leb 16 o l, lt-ltb o 336 h) refl

refused_in_span : (k : Card) (o v : ℕ) (e : Refusal) → offset_checked o ≡ Ok tt → in_channels o ≡ true
    → register_answer (place_at o) v ≡ Err e → write_done k o v ≡ Err e
unfolding write_done
refused_in_span k o v e p q s = rw (p, q, s) refl

-- a refused write in a channel's span is refused by the card
pub refused_write : (k : Card) (o v : ℕ) (e : Refusal) → offset_checked o ≡ Ok tt → 16 ≤ o → o < 336
    → register_answer (place_at o) v ≡ Err e → write_done k o v ≡ Err e
refused_write k o v e p l h s = refused_in_span k o v e p (in_span o l h) s

-- and the record that it was lent is the one that was there
pub refused_record : (k : Card) (o v : ℕ) (e : Refusal) (x : Channel) → register_answer (place_at o) v ≡ Err e
    → x ≡ register_written (place_at o) v (channel_of (channel_at o) k) → with_channel (channel_at o) x k ≡ k
refused_record k o v e x s q =
    ap (λ (y : Channel). with_channel (channel_at o) y k) (q ∙ refused_leaves (place_at o) v (channel_of (channel_at o) k) e s)
    ∙ ap (λ (cs : List Channel). record { channels = cs; shared = k.shared }) (set-get_or k.channels (channel_at o) _)
