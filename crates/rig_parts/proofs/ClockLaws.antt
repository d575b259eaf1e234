-- The loop that advances the sensors, and what they see of many ticks.
use Rattle.std.proofs.Common.{◌≡◌, ℕ, ◌+◌, ◌<◌, ◌≤◌, Bool, cond, eqb, ltb, ◌⊎◌, [], ◌∷◌, map, IfSome, Some, None, Option, refl, ap, ◌∙◌, inl, inr, arith}
use mathlib.Core.Path.{fun_ext}
use Rattle.std.specs.Option.{option_map}
use Rattle.std.proofs.lemmas.Bool.{cases_lt, cases_order, eq-eqb, le-ltb, lt-ltb, ne_eqb}
use Rattle.bits.specs.Words.{word_flag}
use Rattle.sensor.specs.Model.{Model, Sound, advanced}
use Rattle.sensor.specs.Sending.{ClockAt, after}
use Rattle.sensor.proofs.Soundness.{advanced_sound}
use Rattle.field.proofs.FieldLaws.{mapped_same}
use Rattle.field.specs.Wiring.{FieldModel, Sounds, at_channel}
use Rattle.rig_parts.specs.Clocks.{clocked, OwnClock}

-- a tick of all, seen at one channel
pub clocked_at : (f : FieldModel) (c k : ℕ) → clocked f c k ≡ option_map (λ m. advanced m (word_flag c k)) (f k)
unfolding clocked
clocked_at f c k = refl

-- the sensors of the channels below n one tick on
unfoldable pub clocked_below : ℕ → FieldModel → ℕ → FieldModel
clocked_below n f clocks k = cond (ltb k n) (clocked f clocks k) (f k)

pub clocked_none : (f : FieldModel) (c : ℕ) → f ≡ clocked_below 0 f c
unfolding clocked_below
clocked_none f c = fun_ext (λ k. rw (le-ltb k 0 (omega arith)))

-- one channel more
pub clocked_more : (n c : ℕ) (f g h : FieldModel) (b : Bool) → g ≡ clocked_below n f c → b ≡ word_flag c n → h ≡ at_channel g n (λ m. advanced m b) → h ≡ clocked_below (n + 1) f c
unfolding clocked_below at_channel clocked
clocked_more n c f g h b eg eb eh = eh ∙ rw (eg, eb) (fun_ext (λ j. at j (cases_order j n)))
  where
    at : (j : ℕ) → (j ≡ n) ⊎ ((j < n) ⊎ (n < j)) → cond (eqb j n) (option_map (λ m. advanced m (word_flag c n)) (cond (ltb j n) (option_map (λ m. advanced m (word_flag c j)) (f j)) (f j))) (cond (ltb j n) (option_map (λ m. advanced m (word_flag c j)) (f j)) (f j)) ≡ cond (ltb j (n + 1)) (option_map (λ m. advanced m (word_flag c j)) (f j)) (f j)
    at j (inl e) = rw (eq-eqb j n e, le-ltb j n (omega arith), lt-ltb j (n + 1) (omega arith), e)
    at j (inr (inl l)) = rw (ne_eqb j n (λ e. omega arith), lt-ltb j n l, lt-ltb j (n + 1) (omega arith))
    at j (inr (inr l)) = rw (ne_eqb j n (λ e. omega arith), le-ltb j n (omega arith), le-ltb j (n + 1) (omega arith))

-- after eight channels there are no sensors left
pub clocked_all : (n c : ℕ) (f g : FieldModel) → Sounds f → 8 ≤ n → g ≡ clocked_below n f c → g ≡ clocked f c
unfolding clocked_below clocked
clocked_all n c f g s high e = e ∙ fun_ext (λ j. at j (cases_lt j n))
  where
    at : (j : ℕ) → (j < n) ⊎ (n ≤ j) → cond (ltb j n) (option_map (λ m. advanced m (word_flag c j)) (f j)) (f j) ≡ option_map (λ m. advanced m (word_flag c j)) (f j)
    at j (inl l) = rw (lt-ltb j n l)
    at j (inr l) = rw (le-ltb j n l, s.above j (omega arith))

sound_on : (b : Bool) (o : Option Model) → IfSome o Sound → IfSome (option_map (λ m. advanced m b) o) Sound
sound_on b None h = tt
sound_on b (Some m) h = advanced_sound m b h

-- a tick of all keeps the field sound
pub clocked_sounds : (f : FieldModel) (c : ℕ) → Sounds f → Sounds (clocked f c)
unfolding clocked
clocked_sounds f c s = record { each = λ k. sound_on (word_flag c k) (f k) (s.each k); above = λ k high. ap (option_map (λ m. advanced m (word_flag c k))) (s.above k high) }

mapped_twice : (g h : Model → Model) (o : Option Model) → option_map g (option_map h o) ≡ option_map (λ m. g (h m)) o
mapped_twice g h None = refl
mapped_twice g h (Some m) = refl

pub own_clock : OwnClock
unfolding clocked
own_clock f [] k = mapped_same (f k)
own_clock f (c ∷ cs) k =
    own_clock (clocked f c) cs k ∙ mapped_twice (λ m. after m (map (λ x. ClockAt (word_flag x k)) cs)) (λ m. advanced m (word_flag c k)) (f k)
