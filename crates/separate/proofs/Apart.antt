-- Lists of calls that are alike for a channel give it the same answers.
use Rattle.std.proofs.Common.{◌≡◌, ℕ, ◌+◌, ◌*◌, ◌<◌, cond, List, ◌∷◌, sym, refl, ap, ◌∙◌, ap₂, arith}
use Rattle.bits.specs.Words.{word_flag}
use Rattle.table.specs.Tables.{line_levels_at}
use Rattle.card.specs.declared.Card.{Card}
use Rattle.card.specs.Calls.{powered_on}
use Rattle.runs.specs.declared.Answer.{Answer}
use Rattle.runs.specs.declared.Call.{Call}
use Rattle.runs.specs.declared.Call.TheVariants.{Tick, Read, Write}
use Rattle.runs.specs.Runs.{answer_to, answers, step}
use Rattle.separate.specs.Separation.{Alike, AllAlike, Elsewhere, Separate, concerns, elsewhere, more, none, nothing, reads, seen, seen_all, ticks, writes, written}
use Rattle.separate.proofs.Calls.{here, left_read, left_written, read_seen, same_read, same_tick, same_written, tick_seen_lem, write_seen}
use Rattle.separate.proofs.Same.{Same, Sound, same_self, same_sym, same_trans}

lines_same : (k l m : ℕ) → word_flag l (3 * k) ≡ word_flag m (3 * k) → word_flag l (3 * k + 1) ≡ word_flag m (3 * k + 1) → word_flag l (3 * k + 2) ≡ word_flag m (3 * k + 2) → line_levels_at l k ≡ line_levels_at m k
lines_same k l m p q r = rw (p, q, r) refl

-- a call that is none of the channel's leaves its part of the card, and tells it nothing
left_alone : {k : ℕ} (c : Card) (x : Call) → Sound c → Elsewhere k x → Same k (step c x) c
left_alone c (Tick l i) s e = absurd e
left_alone {k} c (Read o) s e = left_read c o s e
left_alone {k} c (Write o v) s e = left_written c o v s e

tells_nothing : (k : ℕ) (x : Call) (a : Answer) → Elsewhere k x → seen k x a ≡ nothing
tells_nothing k (Tick l i) a e = absurd e
tells_nothing k (Read o) a e = rw e
tells_nothing k (Write o v) a e = rw e

step_same : {k : ℕ} {x y : Call} {c d : Card} → k < 8 → Alike k x y → Same k c d → Same k (step c x) (step d y)
step_same {k} h (ticks {l} {m} {i} {j} p q r t) s = same_tick l m i j h (lines_same k l m p q r) t s
step_same {k} h (reads {o} e) s = same_read o h (here k o e) s
step_same {k} h (writes {o} {v} {w} e f) s = same_written o v w h (here k o e) f s
step_same {k} {c = c} {d = d} h (elsewhere {x} {y} p q) s = same_trans (left_alone c x s.left p) (same_trans s (same_sym (left_alone d y s.right q)))

seen_same : {k : ℕ} {x y : Call} (c d : Card) → k < 8 → Alike k x y → Same k c d → seen k x (answer_to c x) ≡ seen k y (answer_to d y)
seen_same {k} c d h (ticks {l} {m} {i} {j} p q r t) s = tick_seen_lem l m i j h (lines_same k l m p q r) t s
seen_same {k} c d h (reads {o} e) s = ap (λ z. cond (concerns k o) z nothing) (read_seen o h (here k o e) s)
seen_same {k} c d h (writes {o} {v} {w} e f) s = ap (λ r. cond (concerns k o) (written r) nothing) (write_seen k o v w c d (here k o e) f)
seen_same {k} c d h (elsewhere {x} {y} p q) s = tells_nothing k x (answer_to c x) p ∙ sym (tells_nothing k y (answer_to d y) q)

apart : (k : ℕ) → k < 8 → {xs ys : List Call} → AllAlike k xs ys → (c d : Card) → Same k c d → seen_all k xs (answers c xs) ≡ seen_all k ys (answers d ys)
apart k h none c d s = refl
apart k h (more {x} {y} a r) c d s = ap₂ ◌∷◌ (seen_same c d h a s) (apart k h r (step c x) (step d y) (step_same h a s))

new_card : Sound powered_on
unfolding powered_on
new_card = record { eight = refl; time = omega arith }

pub separate : Separate
separate k h xs ys r = apart k h r powered_on powered_on (same_self new_card)
