-- A sensor in the course of a frame.
use Rattle.std.proofs.Common.{◌≡◌, ℕ, suc, ◌+◌, ◌-◌, ◌^◌, ◌<◌, ◌≤◌, Bool, true, false, cond, eqb, ltb, ◌⊎◌, List, [], ◌∷◌, sym, refl, ap, ◌∙◌, inl, inr, add-zero, add_assoc, arith}
use Rattle.std.proofs.lemmas.Bool.{cases_Bool, cases_lt, eq-eqb, le-ltb, lt-ltb, ne_eqb}
use Rattle.frame.specs.Layout.{frame_bits, word_of_frame}
use Rattle.sensor.specs.declared.constants.Constants.{Constants}
use Rattle.sensor.specs.declared.phase.Phase.{Phase}
use Rattle.sensor.specs.declared.phase.Phase.TheVariants.{Idle, Sending, Recovering}
use Rattle.sensor.specs.Model.{Model, model, advanced, frame_level, frame_of, level_of, turned}
use Rattle.sensor.specs.Sending.{Act, ClockAt, TurnTo, after, levels, ticks, rise, rises, last_level, turned_to, position_after, recovering_for, SendsFrame, Recovers, NineIsSent}
use Rattle.sensor.proofs.Ranges.{ranged}

-- a turn alters the position alone
pub turn_keeps : (c : Constants) (p q : ℕ) (f : Phase) (k : Bool) → turned (model c p f k) q ≡ model c (turned_to c p q) f k
unfolding turned
turn_keeps c p q f k = at (cases_Bool (ltb q (2 ^ c.format.data_bits)))
  where
    at : (ltb q (2 ^ c.format.data_bits) ≡ true) ⊎ (ltb q (2 ^ c.format.data_bits) ≡ false) → cond (ltb q (2 ^ c.format.data_bits)) (model c q f k) (model c p f k) ≡ model c (turned_to c p q) f k
    at (inl t) = rw t
    at (inr t) = rw t

-- one tick in a frame
pub frame_tick : (c : Constants) (p w r : ℕ) (k b : Bool) → r + rise k b ≤ frame_bits c.format → advanced (model c p (Sending w r) k) b ≡ model c p (Sending w (r + rise k b)) b
unfolding advanced
frame_tick c p w r true b h = rw (add-zero r)
frame_tick c p w r false true h = rw (lt-ltb r (frame_bits c.format) (omega arith))
frame_tick c p w r false false h = rw (add-zero r)

-- any acts in a frame
pub in_frame : (c : Constants) (p w r : ℕ) (k : Bool) (acts : List Act) → r + rises k (levels acts) ≤ frame_bits c.format → after (model c p (Sending w r) k) acts ≡ model c (position_after c p acts) (Sending w (r + rises k (levels acts))) (last_level k (levels acts))
in_frame c p w r k [] h = rw (add-zero r)
in_frame c p w r k (ClockAt b ∷ acts) h =
    ap (λ (m : Model). after m acts) (frame_tick c p w r k b (omega arith))
    ∙ in_frame c p w (r + rise k b) b acts (omega arith)
    ∙ ap (λ n. model c (position_after c p acts) (Sending w n) (last_level b (levels acts))) (add_assoc r (rise k b) (rises b (levels acts)))
in_frame c p w r k (TurnTo q ∷ acts) h =
    ap (λ (m : Model). after m acts) (turn_keeps c p q (Sending w r) k) ∙ in_frame c (turned_to c p q) w r k acts h

-- the fall that begins a frame
pub frame_begins : (c : Constants) (p : ℕ) → advanced (model c p Idle true) false ≡ model c p (Sending (frame_of c p) 0) false
unfolding advanced
frame_begins c p = refl

-- what it shows in a frame
pub frame_shows : (c : Constants) (p w r : ℕ) (k : Bool) → level_of (model c p (Sending w r) k) ≡ frame_level (frame_bits c.format) w r
unfolding level_of
frame_shows c p w r k = refl

-- a sensor of which phase and clock are known
pub known : (m : Model) (f : Phase) (k : Bool) → m.phase ≡ f → m.clock ≡ k → m ≡ model m.constants m.position f k
known m f k ef ek = rw (sym ef, sym ek) refl

pub sends_frame : SendsFrame
sends_frame m acts s ef ek h =
    let c = m.constants in
    let p = m.position in
    let w = frame_of c p in
    let r = rises false (levels acts) in
    let state : after m (ClockAt false ∷ acts) ≡ model c (position_after c p acts) (Sending w r) (last_level false (levels acts)) =
    ap (λ (x : Model). after x (ClockAt false ∷ acts)) (known m Idle true ef ek)
    ∙ ap (λ (x : Model). after x acts) (frame_begins c p)
    ∙ in_frame c p w 0 false acts (omega arith)
    ∙ ap (λ n. model c (position_after c p acts) (Sending w n) (last_level false (levels acts))) (omega arith) in
    record { state = state; level = ap level_of state ∙ frame_shows c _ w r _ }

-- one tick of a recovery
pub recovery_tick : (c : Constants) (p k : ℕ) (last b : Bool) → advanced (model c p (Recovering k) last) b ≡ model c p (recovering_for k 1) b
unfolding advanced
recovery_tick c p k last b = refl

-- the rise that begins it
pub recovery_begins : (c : Constants) (p w : ℕ) → advanced (model c p (Sending w (frame_bits c.format)) false) true ≡ model c p (Recovering c.recovery) true
unfolding advanced
recovery_begins c p w = rw (le-ltb (frame_bits c.format) (frame_bits c.format) (omega arith))

-- without a tick only the position moves
pub no_tick : (c : Constants) (p : ℕ) (f : Phase) (k : Bool) (acts : List Act) → ticks acts ≡ 0 → after (model c p f k) acts ≡ model c (position_after c p acts) f (last_level k (levels acts))
no_tick c p f k [] h = refl
no_tick c p f k (ClockAt b ∷ acts) h = absurd (omega arith)
no_tick c p f k (TurnTo q ∷ acts) h = ap (λ (m : Model). after m acts) (turn_keeps c p q f k) ∙ no_tick c (turned_to c p q) f k acts h

recovery_none : (k : ℕ) → 1 ≤ k → recovering_for k 0 ≡ Recovering k
recovery_none k h = let e : k - 0 ≡ k = omega arith in rw (lt-ltb 0 k (omega arith), e)

recovery_over : (k t : ℕ) → k ≤ t → recovering_for k t ≡ Idle
recovery_over k t h = rw (le-ltb t k h)

recovery_lasts : (k : ℕ) → 1 < k → recovering_for k 1 ≡ Recovering (k - 1)
recovery_lasts k h = rw (lt-ltb 1 k h)

-- a tick later
recovery_later : (k t : ℕ) → 1 < k → suc t ≤ k → recovering_for (k - 1) t ≡ recovering_for k (suc t)
recovery_later k t h l = at (cases_lt (suc t) k)
  where
    at : (suc t < k) ⊎ (k ≤ suc t) → recovering_for (k - 1) t ≡ recovering_for k (suc t)
    at (inl q) = let e : k - 1 - t ≡ k - suc t = omega arith in rw (lt-ltb t (k - 1) (omega arith), lt-ltb (suc t) k q, e)
    at (inr q) = rw (le-ltb t (k - 1) (omega arith), le-ltb (suc t) k q)

-- any acts in a recovery
pub in_recovery : (c : Constants) (p k : ℕ) (last : Bool) (acts : List Act) → 1 ≤ k → ticks acts ≤ k → after (model c p (Recovering k) last) acts ≡ model c (position_after c p acts) (recovering_for k (ticks acts)) (last_level last (levels acts))
in_recovery c p k last [] h l = ap (λ f. model c p f last) (sym (recovery_none k h))
in_recovery c p k last (TurnTo q ∷ acts) h l = ap (λ (m : Model). after m acts) (turn_keeps c p q (Recovering k) last) ∙ in_recovery c (turned_to c p q) k last acts h l
in_recovery c p k last (ClockAt b ∷ acts) h l = ap (λ (m : Model). after m acts) (recovery_tick c p k last b) ∙ at (λ one. in_recovery c p (k - 1) b acts (omega arith) (omega arith)) (cases_lt 1 k)
  where
    at : (1 < k → after (model c p (Recovering (k - 1)) b) acts ≡ model c (position_after c p acts) (recovering_for (k - 1) (ticks acts)) (last_level b (levels acts))) → (1 < k) ⊎ (k ≤ 1) → after (model c p (recovering_for k 1) b) acts ≡ model c (position_after c p acts) (recovering_for k (suc (ticks acts))) (last_level b (levels acts))
    at more (inl q) =
        ap (λ f. after (model c p f b) acts) (recovery_lasts k q) ∙ more q
        ∙ ap (λ f. model c (position_after c p acts) f (last_level b (levels acts))) (recovery_later k (ticks acts) q l)
    at more (inr q) =
        ap (λ f. after (model c p f b) acts) (recovery_over k 1 q)
        ∙ no_tick c p Idle b acts (omega arith)
        ∙ ap (λ f. model c (position_after c p acts) f (last_level b (levels acts))) (sym (recovery_over k (suc (ticks acts)) (omega arith)))

recovery_shows : (c : Constants) (p k t : ℕ) (b : Bool) → t ≤ k → level_of (model c p (recovering_for k t) b) ≡ eqb t k
unfolding level_of
recovery_shows c p k t b h = at (cases_lt t k)
  where
    at : (t < k) ⊎ (k ≤ t) → level_of (model c p (recovering_for k t) b) ≡ eqb t k
    at (inl l) = rw (lt-ltb t k l, ne_eqb t k (λ e. omega arith))
    at (inr l) = rw (le-ltb t k l, eq-eqb t k (omega arith))

pub recovers : Recovers
recovers m w acts s ef ek h =
    let c = m.constants in
    let p = m.position in
    let R = c.recovery in
    let state : after m (ClockAt true ∷ acts) ≡ model c (position_after c p acts) (recovering_for R (ticks acts)) (last_level true (levels acts)) =
    ap (λ (x : Model). after x (ClockAt true ∷ acts)) (known m (Sending w (frame_bits c.format)) false ef ek)
    ∙ ap (λ (x : Model). after x acts) (recovery_begins c p w)
    ∙ in_recovery c p R true acts (omega (arith, (ranged c s.ranged).slowest)) h in
    record { state = state; level = ap level_of state ∙ recovery_shows c _ R (ticks acts) _ h }

pub nine_is_sent : NineIsSent
unfolding advanced turned level_of word_of_frame
nine_is_sent = refl
