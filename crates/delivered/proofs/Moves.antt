-- What reads and writes of the card do to one channel's mode and line filters.
use Rattle.std.proofs.Common.{◌≡◌, ℕ, ◌<◌, Bool, true, false, cond, eqb, ltb, leb, List, length, get_or, Ok, Result, sym, refl, subst, arith}
use Rattle.std.proofs.lemmas.List.{get_or-set_other, get_or-set_same, length-set}
use Rattle.std.proofs.lemmas.Bool.{and_parts, leb-true}
use Rattle.refusal.specs.declared.Refusal.{Refusal}
use Rattle.channel.specs.declared.act.Act.{Act}
use Rattle.channel.specs.declared.channel.Channel.{Channel}
use Rattle.channel.specs.Registers.{register_written}
use Rattle.channel.specs.Shares.{performed}
use Rattle.table.specs.Tables.{acted}
use Rattle.table.proofs.Loops.{get_d_changed, length_changed}
use Rattle.card.specs.Calls.{Card, card_after_read, card_after_write, given, read_done, write_done}
use Rattle.card.specs.Records.{blank, channel_of, with_channel}
use Rattle.card.specs.Registers.{channel_at, in_channels, in_snapshots, offset_checked, place_at, register_read, register_set, setting_checked, snapshot_at}
use Rattle.card.specs.SharedRegisters.{shared_written}
use Rattle.card.specs.Snapshots.{commanded}
use Rattle.delivered.specs.Delivery.{debouncing_at}
use Rattle.delivered.proofs.Changes.{Change, kept, act_change, command, command_change, read_change, write_change}

-- the table keeps its length, and the record of channel k changes as above
pub record Moves (R : Type 0) (k : ℕ) (c d : Card) : Type 0 where
  pub eight : length d.channels ≡ length c.channels
  pub change : Change R (channel_of k c) (channel_of k d)

pub still : {R : Type 0} {k : ℕ} {c : Card} → Moves R k c c
still = record { eight = refl; change = kept refl refl }

-- only what is shared changes
shared_only : {R : Type 0} {k : ℕ} {c d : Card} → d.channels ≡ c.channels → Moves R k c d
shared_only {R} {k} {c} {d} e =
    let n : Moves R k c c = still in
    grind arith

either : {R : Type 0} {k : ℕ} {c x y : Card} (b : Bool) → Moves R k c x → Moves R k c y → Moves R k c (cond b x y)
either true p q = p
either false p q = q

-- a record of a table that was acted on
pub acted_at : (a : Act) (k : ℕ) (t : List Channel) → k < 8 → length t ≡ 8 → get_or (acted a t) k blank ≡ performed a k (get_or t k blank)
unfolding acted
acted_at a k t l e = get_d_changed (performed a) 0 8 k k t blank l (omega arith) (omega arith)

pub acted_length : (a : Act) (t : List Channel) → length (acted a t) ≡ length t
unfolding acted
acted_length a t = length_changed (performed a) 0 8 t

pub acts : {R : Type 0} {k : ℕ} {c d : Card} (a : Act) → k < 8 → length c.channels ≡ 8 → d.channels ≡ acted a c.channels → Moves R k c d
acts {R} {k} {c} {d} a l e q =
    let h : Change R (channel_of k c) (performed a k (channel_of k c)) = act_change a k (channel_of k c) in
    grind (arith, acted_at, acted_length)

-- a snapshot command
commands : {R : Type 0} (w k : ℕ) (c : Card) → k < 8 → length c.channels ≡ 8 → Moves R k c (commanded w c)
commands {R} w k c l e =
    let at : channel_of k (commanded w c) ≡ command w k (channel_of k c) = grind (arith, acted_at, acted_length) in
    record { eight = grind (arith, acted_length); change = subst (Change R (channel_of k c)) (sym at) (command_change w k (channel_of k c)) }

-- a write of a shared register
shared_moves : {R : Type 0} (o v k : ℕ) (c : Card) → k < 8 → length c.channels ≡ 8 → Moves R k c (shared_written o v c)
shared_moves o v k c l e =
    either (eqb o 0) (acts _ l e refl) (
    either (eqb o 4) (commands v k c l e) (
    either (eqb o 340) (acts _ l e refl) (
    either (eqb o 352) (shared_only refl) (
    either (eqb o 356) (acts _ l e refl) (
    either (eqb o 368) (shared_only refl) (
    either (eqb o 372) (shared_only refl) (
    either (eqb o 384) (acts _ l e refl) (
    either (eqb o 388) (acts _ l e refl) (
    either (eqb o 392) (either c.shared.clear_on_read still (acts _ l e refl)) (
    either (eqb o 396) (either c.shared.clear_on_read still (acts _ l e refl)) (
    either (eqb o 496) (acts _ l e refl) (
    either (eqb o 504) (shared_only refl) still))))))))))))

-- an access to one record
puts : {R : Type 0} (j k : ℕ) (x : Channel) (c : Card) → k < 8 → length c.channels ≡ 8 → (j ≡ k → Change R (channel_of j c) x) → Moves R k c (with_channel j x c)
puts {R} j k x c l e f =
    let n : Change R (channel_of k c) (channel_of k c) = kept refl refl in
    record { eight = length-set c.channels j x; change = grind (arith, get_or-set_same, get_or-set_other) }

register_moves : (o v k : ℕ) (c : Card) → k < 8 → length c.channels ≡ 8 → Moves (o ≡ debouncing_at k) k c (register_set o v c)
register_moves o v k c l e = go (in_channels o) refl
  where
    here : in_channels o ≡ true → channel_at o ≡ k → place_at o ≡ 28 → o ≡ debouncing_at k
    here i a p = omega (arith, leb-true 16 o (and_parts (leb 16 o) (ltb o 336) i).0, a, p)

    go : (b : Bool) → in_channels o ≡ b → Moves (o ≡ debouncing_at k) k c (cond b (with_channel (channel_at o) (register_written (place_at o) v (channel_of (channel_at o) c)) c) (shared_written o v c))
    go true i = puts (channel_at o) k _ c l e (λ q. write_change (place_at o) v (channel_of (channel_at o) c) (here i q))
    go false i = shared_moves o v k c l e

write_given : {R : Type 0} {k : ℕ} (c d : Card) (r s : Result (Unit {0}) Refusal) → Moves R k c d → Moves R k c (card_after_write c (given r (given s (Ok d))))
write_given {R} {k} c d r s h =
    let n : Moves R k c c = still in
    grind arith

-- a write restarts the filters of channel k only at its Debouncing Register
pub write_moves : (o v k : ℕ) (c : Card) → k < 8 → length c.channels ≡ 8 → Moves (o ≡ debouncing_at k) k c (card_after_write c (write_done c o v))
unfolding write_done
write_moves o v k c l e = write_given c (register_set o v c) (offset_checked o) (setting_checked o v) (register_moves o v k c l e)

read_given : {R : Type 0} {k : ℕ} (c d : Card) (v : ℕ) (r : Result (Unit {0}) Refusal) → Moves R k c d → Moves R k c (card_after_read c (given r (Ok (record { value = v; card = d }))))
read_given {R} {k} c d v r h =
    let n : Moves R k c c = still in
    grind arith

shown_moves : {R : Type 0} (o k : ℕ) (c : Card) → k < 8 → length c.channels ≡ 8 → Moves R k c (register_read o c)
shown_moves o k c l e =
    either (in_channels o) (puts (channel_at o) k _ c l e (λ q. read_change (place_at o) (channel_of (channel_at o) c)))
    (either (eqb o 392) (either c.shared.clear_on_read (acts _ l e refl) still)
    (either (eqb o 396) (either c.shared.clear_on_read (acts _ l e refl) still)
    (either (in_snapshots o) (puts (snapshot_at o) k _ c l e (λ q. kept refl refl)) still)))

-- a read restarts none
pub read_moves : {R : Type 0} (o k : ℕ) (c : Card) → k < 8 → length c.channels ≡ 8 → Moves R k c (card_after_read c (read_done c o))
unfolding read_done
read_moves o k c l e = read_given c (register_read o c) _ (offset_checked o) (shown_moves o k c l e)
