-- Calls one by one: where the register of an access stands, and what the call leaves and shows of a channel.
use Rattle.std.proofs.Common.{◌≡◌, ℕ, ◌<◌, Bool, true, false, cond, ◌&&◌, ◌||◌, eqb, Ok, Err, Result, sym, refl, ap, ◌∙◌, subst, ap₂, arith}
use mathlib.Core.Path.{fun_ext}
use Rattle.std.proofs.lemmas.Bool.{eqb-false, eqb-true, ne_eqb, or_parts}
use Rattle.std.proofs.lemmas.Bool.Decides.{nat_tests}
use Rattle.refusal.specs.declared.Refusal.{Refusal}
use Rattle.refusal.specs.declared.Refusal.TheVariants.{Offset}
use Rattle.bits.specs.Words.{word_flag}
use Rattle.counter_count.specs.declared.levels.Levels.{Levels as Lines}
use Rattle.parts.specs.Snapshots.{after_reading}
use Rattle.channel.specs.declared.act.Act.TheVariants.{AcknowledgeEdges}
use Rattle.channel.specs.declared.channel.Channel.{Channel}
use Rattle.channel.specs.Records.{with_snapshot}
use Rattle.channel.specs.Registers.{register_shown, register_taken, register_written}
use Rattle.channel.specs.Ticks.{channel_ticked}
use Rattle.table.specs.Tables.{line_levels_at, table_ticked, tick_at}
use Rattle.card.specs.declared.Card.{Card}
use Rattle.card.specs.declared.shared.Shared.{Shared}
use Rattle.card.specs.Calls.{Got, accepted, card_after_read, card_after_write, channels_ticked, given, read_done, tick_done, tick_levels, value_of, write_done}
use Rattle.card.specs.Records.{channel_of}
use Rattle.card.specs.Registers.{channel_at, in_channels, in_snapshots, offset_checked, place_at, register_read, register_set, register_value, setting_checked, snapshot_at}
use Rattle.card.specs.Shared.{expiry, shared_ticked}
use Rattle.card.specs.Words.{register_word}
use Rattle.separate.specs.Separation.{SameFor, bits, bits_seen, concerns, levels, named_for_others, nowhere, tells_of_all, word_seen}
use Rattle.separate.proofs.Words.{word_same}
use Rattle.separate.proofs.Same.{Same, Sound, same_acts, same_changed, same_cond, same_if, same_other, same_own, same_self, same_shared}
use Rattle.separate.proofs.Shown.{clocks_same, outputs_same, register_same}
use Rattle.separate.proofs.Writes.{clears_same, same_acknowledged, same_triggered, same_write}

-- a tick
expiry_same : {k : ℕ} {c d : Card} → Same k c d → expiry c.shared ≡ expiry d.shared
expiry_same s = ap expiry s.shared

same_channels : {k : ℕ} {c d : Card} (l m i j : ℕ) → k < 8 → line_levels_at l k ≡ line_levels_at m k → word_flag i k ≡ word_flag j k
    → Same k c d → Same k (channels_ticked l i c) (channels_ticked m j d)
unfolding table_ticked
same_channels {k} {c} {d} l m i j h p q s = same_changed (tick_at l i (expiry c.shared)) (tick_at m j (expiry d.shared)) h
    (λ x. ap₂ (λ (y : Lines) (b : Bool). channel_ticked y b (expiry c.shared) x) p q
    ∙ ap (λ b. channel_ticked (line_levels_at m k) (word_flag j k) b x) (expiry_same s))
    (same_shared (shared_ticked c.shared) (shared_ticked d.shared) s.left.time s.right.time (ap shared_ticked s.shared) s)

pub same_tick : {k : ℕ} {c d : Card} (l m i j : ℕ) → k < 8 → line_levels_at l k ≡ line_levels_at m k → word_flag i k ≡ word_flag j k
    → Same k c d → Same k (tick_done l i c) (tick_done m j d)
unfolding tick_done
same_tick {k} {c} {d} l m i j h p q s =
    let t : Same k (channels_ticked l i c) (channels_ticked m j d) = same_channels l m i j h p q s in
    same_cond (expiry c.shared && c.shared.timer_triggers) (expiry d.shared && d.shared.timer_triggers)
    (ap₂ ◌&&◌ (expiry_same s) (ap (λ (x : Shared). x.timer_triggers) s.shared)) (same_triggered h t) t

pub tick_seen_lem : {k : ℕ} {c d : Card} (l m i j : ℕ) → k < 8 → line_levels_at l k ≡ line_levels_at m k → word_flag i k ≡ word_flag j k → Same k c d
    → levels (word_flag (tick_levels l i c).clocks k) (word_flag (tick_levels l i c).outputs k) ≡ levels (word_flag (tick_levels m j d).clocks k) (word_flag (tick_levels m j d).outputs k)
unfolding tick_done tick_levels
tick_seen_lem {k} {c} {d} l m i j h p q s =
    let t : Same k (tick_done l i c) (tick_done m j d) = same_tick l m i j h p q s in
    ap₂ levels (clocks_same h t) (outputs_same h t)

-- where the register of an access stands: with channel k or shared, or else with another channel
pub data Here (k o : ℕ) : Type 0 where
  own : in_channels o ≡ true → channel_at o ≡ k → Here k o
  snapshot : in_channels o ≡ false → in_snapshots o ≡ true → snapshot_at o ≡ k → Here k o
  shared : in_channels o ≡ false → in_snapshots o ≡ false → Here k o

pub data Away (k o : ℕ) : Type 0 where
  other : in_channels o ≡ true → (channel_at o ≡ k → ⊥) → Away k o
  other_snapshot : in_channels o ≡ false → in_snapshots o ≡ true → (snapshot_at o ≡ k → ⊥) → Away k o

pub here : (k o : ℕ) → concerns k o ≡ true → Here k o
here k o e = go (nowhere o) (in_channels o) (in_snapshots o) refl refl e
  where
    go : (a i m : Bool) → in_channels o ≡ i → in_snapshots o ≡ m → cond a false (cond i (eqb (channel_at o) k) (cond m (eqb (snapshot_at o) k) true)) ≡ true → Here k o
    go true i m p q e = absurd cc
    go false true m p q e = own p (eqb-true (channel_at o) k e)
    go false false true p q e = snapshot p q (eqb-true (snapshot_at o) k e)
    go false false false p q e = shared p q

pub away : (k o : ℕ) → concerns k o ≡ false → nowhere o ≡ false → Away k o
away k o e n = go (in_channels o) (in_snapshots o) refl refl (rw n at e)
  where
    go : (i m : Bool) → in_channels o ≡ i → in_snapshots o ≡ m → cond i (eqb (channel_at o) k) (cond m (eqb (snapshot_at o) k) true) ≡ false → Away k o
    go true m p q e = other p (eqb-false (channel_at o) k e)
    go false true p q e = other_snapshot p q (eqb-false (snapshot_at o) k e)
    go false false p q e = absurd cc

-- an offset in a span is none outside it
off : (span : ℕ → Bool) (o n : ℕ) → span o ≡ true → span n ≡ false → eqb o n ≡ false
off span o n p q = ne_eqb o n (λ e. cc (ap span e))

-- reads, by place
own_taken : {k : ℕ} {c d : Card} (j : ℕ) → j ≡ k → Same k c d → channel_of j c ≡ channel_of j d
own_taken j e s = rw e s.channel

abbrev snapshot_read : Channel → Channel
snapshot_read x = with_snapshot (after_reading x.snapshot) x

same_register_read : {k : ℕ} {c d : Card} (o : ℕ) → k < 8 → Here k o → Same k c d → Same k (register_read o c) (register_read o d)
same_register_read o h (own e p) s = rw e (same_own (channel_at o) _ _ h p (ap (register_taken (place_at o)) (own_taken (channel_at o) p s)) s)
same_register_read o h (snapshot e m p) s = rw (e, off in_snapshots o 392 m refl, off in_snapshots o 396 m refl, m)
    (same_own (snapshot_at o) _ _ h p (ap snapshot_read (own_taken (snapshot_at o) p s)) s)
same_register_read {c = c} {d = d} o h (shared e m) s = rw (e, m) (
    same_if (eqb o 392) (λ t. same_cond c.shared.clear_on_read d.shared.clear_on_read (clears_same s) (same_acknowledged 4294967295 4294967295 h (λ b n. refl) s) s) (
    same_if (eqb o 396) (λ t. same_cond c.shared.clear_on_read d.shared.clear_on_read (clears_same s)
    (same_acts (AcknowledgeEdges 4294967295) (AcknowledgeEdges 4294967295) h (λ x. refl) s) s) s))

left_register_read : {k : ℕ} (c : Card) (o : ℕ) → Sound c → Away k o → Same k (register_read o c) c
left_register_read c o s (other e p) = rw e (same_other c (channel_at o) (register_taken (place_at o) (channel_of (channel_at o) c)) p s)
left_register_read c o s (other_snapshot e m p) = rw (e, off in_snapshots o 392 m refl, off in_snapshots o 396 m refl, m)
    (same_other c (snapshot_at o) (snapshot_read (channel_of (snapshot_at o) c)) p s)

after_read : {k : ℕ} {c d : Card} (r : Result (Unit {0}) Refusal) (x y : Got) → Same k c d → Same k x.card y.card
    → Same k (card_after_read c (given r (Ok x))) (card_after_read d (given r (Ok y)))
after_read (Ok u) x y s t = t
after_read (Err e) x y s t = s

pub same_read : {k : ℕ} {c d : Card} (o : ℕ) → k < 8 → Here k o → Same k c d → Same k (card_after_read c (read_done c o)) (card_after_read d (read_done d o))
unfolding read_done
same_read {k} {c} {d} o h p s = after_read (offset_checked o) (record { value = register_value o c; card = register_read o c }) (record { value = register_value o d; card = register_read o d })
    s (same_register_read o h p s)

pub left_read : {k : ℕ} (c : Card) (o : ℕ) → Sound c → concerns k o ≡ false → Same k (card_after_read c (read_done c o)) c
unfolding read_done
left_read {k} c o s p = go (nowhere o) refl
  where
    go : (a : Bool) → nowhere o ≡ a → Same k (card_after_read c (given (cond a (Err Offset) (Ok tt)) (Ok (record { value = register_value o c; card = register_read o c })))) c
    go true n = same_self s
    go false n = left_register_read c o s (away k o p n)

-- what a read shows
bits_same : (k o v w : ℕ) → ((b : ℕ) → named_for_others k o b ≡ false → tells_of_all o b ≡ false → word_flag v b ≡ word_flag w b) → bits (bits_seen k o v) ≡ bits (bits_seen k o w)
bits_same k o v w e = ap bits (fun_ext (λ b. go b (named_for_others k o b || tells_of_all o b) refl))
  where
    go : (b : ℕ) (t : Bool) → (named_for_others k o b || tells_of_all o b) ≡ t → cond t false (word_flag v b) ≡ cond t false (word_flag w b)
    go b true q = refl
    go b false q = let p = or_parts (named_for_others k o b) (tells_of_all o b) q in e b p.0 p.1

value_seen : {k : ℕ} {c d : Card} (o : ℕ) → k < 8 → Here k o → Same k c d → bits (bits_seen k o (register_value o c)) ≡ bits (bits_seen k o (register_value o d))
value_seen {k} o h (own e p) s = rw e (ap (λ (x : Channel). bits (bits_seen k o (register_shown (place_at o) x))) (own_taken (channel_at o) p s))
value_seen {k} o h (snapshot e m p) s = rw (e, m) (ap (λ (x : Channel). bits (bits_seen k o x.snapshot.word)) (own_taken (snapshot_at o) p s))
value_seen {k} {c} {d} o h (shared e m) s = rw (e, m) (bits_same k o (register_word o c) (register_word o d) (λ b n t. register_same o b h s n t))

word_given : (k o : ℕ) (r : Result (Unit {0}) Refusal) (x y : Got) → bits (bits_seen k o x.value) ≡ bits (bits_seen k o y.value)
    → word_seen k o (value_of (given r (Ok x))) ≡ word_seen k o (value_of (given r (Ok y)))
word_given k o (Ok u) x y e = e
word_given k o (Err f) x y e = refl

pub read_seen : {k : ℕ} {c d : Card} (o : ℕ) → k < 8 → Here k o → Same k c d → word_seen k o (value_of (read_done c o)) ≡ word_seen k o (value_of (read_done d o))
unfolding read_done
read_seen {k} {c} {d} o h p s = word_given k o (offset_checked o) (record { value = register_value o c; card = register_read o c }) (record { value = register_value o d; card = register_read o d })
    (value_seen o h p s)

-- writes, by place: an MCR Data Register ignores them
write_snapshot : (o v : ℕ) (c : Card) → in_channels o ≡ false → in_snapshots o ≡ true → register_set o v c ≡ c
write_snapshot o v c e m = grind (arith, nat_tests)

-- where no bit is named for others, the words are equal
quiet_span : (k o b : ℕ) → in_channels o ≡ true → named_for_others k o b ≡ false
quiet_span k o b e =
    let n = λ (i : ℕ) (q : in_channels i ≡ false). off in_channels o i e q in
    rw (n 0 refl, n 4 refl, n 336 refl, n 340 refl, n 352 refl, n 356 refl, n 360 refl, n 384 refl, n 388 refl, n 392 refl, n 396 refl, n 496 refl) refl

same_register_set : {k : ℕ} {c d : Card} (o v w : ℕ) → k < 8 → Here k o → SameFor k o v w → Same k c d → Same k (register_set o v c) (register_set o w d)
same_register_set {k} o v w h (own e p) f s = rw e (same_own (channel_at o) _ _ h p
    (ap₂ (λ (u : ℕ) (x : Channel). register_written (place_at o) u x) (word_same v w (λ b. f b (quiet_span k o b e))) (own_taken (channel_at o) p s)) s)
same_register_set o v w h (snapshot e m p) f s = rw e (same_write o v w h f s)
same_register_set o v w h (shared e m) f s = rw e (same_write o v w h f s)

left_register_set : {k : ℕ} (c : Card) (o v : ℕ) → Sound c → Away k o → Same k (register_set o v c) c
left_register_set c o v s (other e p) = rw e (same_other c (channel_at o) (register_written (place_at o) v (channel_of (channel_at o) c)) p s)
left_register_set {k} c o v s (other_snapshot e m p) = subst (λ (x : Card). Same k x c) (sym (write_snapshot o v c e m)) (same_self s)

-- the check of what a write sets looks at the word alone
setting_same : (k o v w : ℕ) → Here k o → SameFor k o v w → setting_checked o v ≡ setting_checked o w
setting_same k o v w (own e p) f = ap (setting_checked o) (word_same v w (λ b. f b (quiet_span k o b e)))
setting_same k o v w (snapshot e m p) f = rw e refl
setting_same k o v w (shared e m) f = rw e refl

after_write : {k : ℕ} {c d : Card} (r p : Result (Unit {0}) Refusal) (x y : Card) → Same k c d → Same k x y
    → Same k (card_after_write c (given r (given p (Ok x)))) (card_after_write d (given r (given p (Ok y))))
after_write (Ok u) (Ok z) x y s t = t
after_write (Ok u) (Err f) x y s t = s
after_write (Err f) p x y s t = s

pub same_written : {k : ℕ} {c d : Card} (o v w : ℕ) → k < 8 → Here k o → SameFor k o v w → Same k c d
    → Same k (card_after_write c (write_done c o v)) (card_after_write d (write_done d o w))
unfolding write_done
same_written {k} {c} {d} o v w h p f s =
    rw (← setting_same k o v w p f) (after_write (offset_checked o) (setting_checked o v) (register_set o v c) (register_set o w d) s (same_register_set o v w h p f s))

pub left_written : {k : ℕ} (c : Card) (o v : ℕ) → Sound c → concerns k o ≡ false → Same k (card_after_write c (write_done c o v)) c
unfolding write_done
left_written {k} c o v s p = go (nowhere o) (setting_checked o v) refl
  where
    go : (a : Bool) (q : Result (Unit {0}) Refusal) → nowhere o ≡ a → Same k (card_after_write c (given (cond a (Err Offset) (Ok tt)) (given q (Ok (register_set o v c))))) c
    go true q n = same_self s
    go false (Ok u) n = left_register_set c o v s (away k o p n)
    go false (Err f) n = same_self s

-- what a write answers
accepted_same : (r p : Result (Unit {0}) Refusal) (x y : Card) → accepted (given r (given p (Ok x))) ≡ accepted (given r (given p (Ok y)))
accepted_same (Ok u) (Ok z) x y = refl
accepted_same (Ok u) (Err f) x y = refl
accepted_same (Err f) p x y = refl

pub write_seen : (k o v w : ℕ) (c d : Card) → Here k o → SameFor k o v w → accepted (write_done c o v) ≡ accepted (write_done d o w)
unfolding write_done
write_seen k o v w c d p f = rw (← setting_same k o v w p f) (accepted_same (offset_checked o) (setting_checked o v) (register_set o v c) (register_set o w d))
