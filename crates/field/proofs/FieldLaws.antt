-- A plug over a field, and acts at channels.
use Rattle.std.specs.Prelude.{◌≡◌, ℕ, Bool, true, false, cond, List, [], ◌∷◌, IfSome, Some, None, Option, Result, ◌==◌, ◌≢◌, refl}
use Rattle.std.proofs.Common.{sym, ap, ◌∙◌}
use Rattle.std.proofs.Math.Path.{fun_ext}
use Rattle.std.specs.Option.{option_map}
use Rattle.std.proofs.lemmas.Bool.{eq-eqb, eqb-true, ne_eqb}
use Rattle.sensor.specs.declared.refusal.FieldRefusal.{FieldRefusal}
use Rattle.sensor.specs.Model.{Model, Sound, advanced, level_of, turn_answer, turned}
use Rattle.sensor.specs.Sending.{Act, acted, after}
use Rattle.sensor.proofs.Soundness.{advanced_sound, turned_sound}
use Rattle.field.specs.OwnSensor.{acts_at, OwnSensor}
use Rattle.field.specs.FieldsSound.{plug_below}
use Rattle.field.specs.Wiring.{FieldModel, Sounds, none_wired, advanced_at, at_channel, level_at, plugged, turn_answer_at, turned_at}

same_either : {X : Type 0} (b : Bool) (x : X) → x ≡ cond b x x
same_either true x = refl
same_either false x = refl

-- where there is no sensor nothing is done
pub none_acts : (k : ℕ) (act : Model → Model) → none_wired ≡ at_channel none_wired k act
unfolding at_channel
none_acts k act = fun_ext (λ j. same_either (j == k) None)

-- an act at a channel, seen there
pub acts_at_lem : (f : FieldModel) (k : ℕ) (act : Model → Model) → at_channel f k act k ≡ option_map act (f k)
unfolding at_channel
acts_at_lem f k act = rw (eq-eqb k k refl)

-- and seen elsewhere
pub acts_elsewhere : (f : FieldModel) (k j : ℕ) (act : Model → Model) → (j ≢ k) → at_channel f k act j ≡ f j
unfolding at_channel
acts_elsewhere f k j act ne = rw (ne_eqb j k ne)

pub plug_here : (k ch : ℕ) (m : Model) (f : FieldModel) → ch ≡ k → plugged k m f ch ≡ Some m
unfolding plugged
plug_here k ch m f e = rw (eq-eqb ch k e)

acts_on : (act : Model → Model) (b : Bool) (m m' : Model) (o : Option Model) → m' ≡ act m → cond b (Some m') o ≡ cond b (option_map act (cond b (Some m) o)) (cond b (Some m) o)
acts_on act true m m' o e = ap Some e
acts_on act false m m' o e = refl

-- an act at the plug's channel is its sensor's
pub acts_here : (k ch : ℕ) (m m' : Model) (f : FieldModel) (act : Model → Model) → ch ≡ k → m' ≡ act m → plugged k m' f ≡ at_channel (plugged k m f) ch act
unfolding at_channel plugged
acts_here k ch m m' f act e h = rw e (fun_ext (λ j. acts_on act (j == k) m m' (f j) h))

acts_off : (act : Model → Model) (here there : Bool) (m : Model) (o o' : Option Model) → (here ≡ true → there ≡ false) → o' ≡ cond there (option_map act o) o → cond here (Some m) o' ≡ cond there (option_map act (cond here (Some m) o)) (cond here (Some m) o)
acts_off act true there m o o' apart e = rw (apart refl)
acts_off act false there m o o' apart e = e

-- an act at another channel is the field's below
pub acts_below : (k ch : ℕ) (m : Model) (f f' : FieldModel) (act : Model → Model) → (ch ≢ k) → f' ≡ at_channel f ch act → plugged k m f' ≡ at_channel (plugged k m f) ch act
unfolding at_channel plugged
acts_below k ch m f f' act ne h =
    fun_ext (λ j. acts_off act (j == k) (j == ch) m (f j) (f' j) (λ t. ne_eqb j ch (λ e. ne (sym e ∙ eqb-true j k t))) (ap (λ (g : FieldModel). g j) h))

pub level_here : (k ch : ℕ) (m : Model) (f : FieldModel) (b : Bool) → ch ≡ k → b ≡ level_of m → Some b ≡ level_at (plugged k m f) ch
level_here k ch m f b e h = rw (plug_here k ch m f e, h)

pub level_below : (k ch : ℕ) (m : Model) (f : FieldModel) (r : Option Bool) → (ch ≢ k) → r ≡ level_at f ch → r ≡ level_at (plugged k m f) ch
level_below k ch m f r ne h = rw (plug_below k ch m f ne) h

pub answer_here : (k ch p : ℕ) (m : Model) (f : FieldModel) (r : Result (Unit {0}) FieldRefusal) → ch ≡ k → r ≡ turn_answer m p → r ≡ turn_answer_at (plugged k m f) ch p
answer_here k ch p m f r e h = rw (plug_here k ch m f e) h

pub answer_below : (k ch p : ℕ) (m : Model) (f : FieldModel) (r : Result (Unit {0}) FieldRefusal) → (ch ≢ k) → r ≡ turn_answer_at f ch p → r ≡ turn_answer_at (plugged k m f) ch p
answer_below k ch p m f r ne h = rw (plug_below k ch m f ne) h

act_sounds : (act : Model → Model) (b : Bool) (o : Option Model) → ((m : Model) → Sound m → Sound (act m)) → IfSome o Sound → IfSome (cond b (option_map act o) o) Sound
act_sounds act true None keeps h = tt
act_sounds act true (Some m) keeps h = keeps m h
act_sounds act false o keeps h = h

act_none : (act : Model → Model) (b : Bool) (o : Option Model) → o ≡ None → cond b (option_map act o) o ≡ None
act_none act true o e = rw e
act_none act false o e = e

-- what keeps a sensor sound keeps the field sound
pub acts_sound : (f : FieldModel) (k : ℕ) (act : Model → Model) → ((m : Model) → Sound m → Sound (act m)) → Sounds f → Sounds (at_channel f k act)
unfolding at_channel
acts_sound f k act keeps s = record {
  each = λ j. act_sounds act (j == k) (f j) keeps (s.each j);
  above = λ j high. act_none act (j == k) (f j) (s.above j high);
}

pub turned_sounds : (f : FieldModel) (k p : ℕ) → Sounds f → Sounds (turned_at f k p)
turned_sounds f k p = acts_sound f k (λ m. turned m p) (λ m. turned_sound m p)

pub advanced_sounds : (f : FieldModel) (k : ℕ) (b : Bool) → Sounds f → Sounds (advanced_at f k b)
advanced_sounds f k b = acts_sound f k (λ m. advanced m b) (λ m. advanced_sound m b)

pub mapped_same : (o : Option Model) → o ≡ option_map (λ m. m) o
mapped_same None = refl
mapped_same (Some m) = refl

one_more : (b : Bool) (a : Act) (acts : List Act) (o : Option Model) → option_map (λ m. after m acts) (cond b (option_map (λ m. acted m a) o) o) ≡ option_map (λ m. after m (cond b (a ∷ acts) acts)) o
one_more true a acts None = refl
one_more true a acts (Some m) = refl
one_more false a acts o = refl

pub own_sensor : OwnSensor
unfolding at_channel
own_sensor f [] k = mapped_same (f k)
own_sensor f (a ∷ acts) k =
    own_sensor (at_channel f a.channel (λ m. acted m a.act)) acts k ∙ one_more (k == a.channel) a.act (acts_at k acts) (f k)
