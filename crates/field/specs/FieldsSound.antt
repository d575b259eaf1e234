-- The sensors of each field are sound, and there is none above channel 7.
use Rattle.std.specs.Prelude.{◌≡◌, ℕ, ◌<◌, Bool, true, false, cond, IfSome, Some, Option, ◌==◌, ◌≢◌, refl}
use Rattle.std.proofs.Common.{◌∙◌, arith}
use Rattle.std.proofs.lemmas.Bool.{ne_eqb}
use Rattle.sensor.specs.Model.{Model, Sound}
use Rattle.field.specs.Wiring.{FieldModel, Sounds, none_wired, plugged}

pub none_sounds : Sounds none_wired
none_sounds = record { each = λ k. tt; above = λ k high. refl }

pub plug_below : (k ch : ℕ) (m : Model) (f : FieldModel) → (ch ≢ k) → plugged k m f ch ≡ f ch
unfolding plugged
plug_below k ch m f ne = rw (ne_eqb ch k ne)

sound_either : (b : Bool) (m : Model) (o : Option Model) → Sound m → IfSome o Sound → IfSome (cond b (Some m) o) Sound
sound_either true m o s h = s
sound_either false m o s h = h

-- a sound sensor over a sound field
pub plug_sounds : (k : ℕ) (m : Model) (f : FieldModel) → k < 8 → Sound m → Sounds f → Sounds (plugged k m f)
unfolding plugged
plug_sounds k m f low s h = record {
  each = λ j. sound_either (j == k) m (f j) s (h.each j);
  above = λ j high. plug_below k j m f (λ e. omega arith) ∙ h.above j high;
}
