-- A transmission under way on a channel with its sensor: what calls and ticks leave of it.
use Rattle.std.proofs.Common.{◌≡◌, ℕ, ◌*◌, ◌^◌, ◌<◌, ◌≤◌, Bool, true, false, cond, ◌⊎◌, Some, Option, sym, refl, ap, ◌∙◌, subst, inl, inr, arith, pow_mono}
use Rattle.std.specs.Option.{option_map}
use Rattle.filter.specs.declared.samples.Samples.{Samples}
use Rattle.filter.specs.Filters.{line_filtered, samples_in, ticked}
use Rattle.filter.specs.Debounces.{period_of}
use Rattle.frame.specs.Layout.{reading_of}
use Rattle.frame.specs.declared.format.Format.{Format}
use Rattle.counter_count.specs.declared.levels.Levels.{Levels}
use Rattle.controller.specs.declared.phase.Phase.{Phase}
use Rattle.controller.specs.declared.phase.Phase.TheVariants.{Clocking, Recovering}
use Rattle.controller.specs.Phase.{active_in, busy_in, clock_of, phase_ticked}
use Rattle.controller.specs.Registers.{started}
use Rattle.controller.proofs.Steps.{bits_most}
use Rattle.sensor.specs.declared.phase.Phase.TheVariants.{Idle}
use Rattle.sensor.specs.Model.{Model, Sound, advanced, frame_of, level_of, model, turned}
use Rattle.sensor.specs.Sending.{turned_to}
use Rattle.sensor.proofs.Frames.{turn_keeps}
use Rattle.sensor.proofs.Soundness.{frame_below, sent_is_read}
use Rattle.channel.specs.declared.channel.Channel.{Channel}
use Rattle.channel.specs.declared.mode.Mode.TheVariants.{Ssi as Reading}
use Rattle.channel.specs.Registers.{data_shown}
use Rattle.channel.specs.Shares.{clock_level}
use Rattle.channel.specs.Snapshots.{transmits, triggered}
use Rattle.channel.specs.Ticks.{channel_ticked}
use Rattle.delivered.proofs.Flight.{Flight, FlightAfter, Goes, Lands, bits_of, flight_busy, flight_first, flight_tick, slow_tick}
use Rattle.delivered.proofs.Changes.{Change, Timed}
use Rattle.delivered.proofs.Ticks.{Transmits, seen, stays_if, transmits_on}

-- the channel h transmits the frame F of its sensor, which says the position pos
pub record Aloft (F pos : ℕ) (h : Channel) (o : Option Model) : Type 0 where
  pub sensor : Model
  pub half : ℕ
  pub phase : Phase
  pub is : o ≡ Some sensor
  pub mode : h.mode ≡ Reading phase
  pub flies : Flight sensor.constants F half h.lines.timing h.lines.b phase sensor.phase sensor.clock
  pub small : F < 2 ^ 40
  pub reads : (reading_of sensor.constants.format F).number ≡ pos

pub aloft_busy : {F pos : ℕ} {h : Channel} {o : Option Model} → Aloft F pos h o → transmits h ≡ true
aloft_busy a = grind (arith, flight_busy)

-- an access
pub aloft_change : {R : Type 0} {F pos : ℕ} {h d : Channel} {o : Option Model} → (R → ⊥) → Change R h d → transmits d ≡ true → Aloft F pos h o → Aloft F pos d o
aloft_change {R} {F} {pos} {h} {d} {o} n c b a =
    let l = c.lines n in
    record { sensor = a.sensor; half = a.half; phase = a.phase; is = a.is; mode = grind (arith, aloft_busy); flies = grind arith; small = a.small; reads = a.reads }

-- a turn
pub aloft_turn : {F pos : ℕ} {h : Channel} {o : Option Model} (q : ℕ) → Aloft F pos h o → Aloft F pos h (option_map (λ m. turned m q) o)
aloft_turn {F} {pos} {h} {o} q a =
    let s = a.sensor in
    let kept = turn_keeps s.constants s.position q s.phase s.clock in
    record { sensor = model s.constants (turned_to s.constants s.position q) s.phase s.clock; half = a.half; phase = a.phase; is = rw a.is (ap Some kept); mode = a.mode; flies = a.flies; small = a.small; reads = a.reads }

busy_active : (p : Phase) → busy_in p ≡ true → active_in p ≡ true
busy_active p b = grind arith

-- the filter of the data line after a tick with the line at v
abbrev filtered_at : Channel → Bool → Samples
filtered_at h v = line_filtered (samples_in h.lines.timing) v h.lines.b

-- a tick after which the transmission goes on
onward : (F pos half : ℕ) (s : Model) (p : Phase) (x : Levels) (h h₁ : Channel) (t clk : Bool) → Transmits x p h h₁
    → FlightAfter s.constants F half (ticked h.lines.timing) (filtered_at h x.b) s.phase s.clock s.position (phase_ticked (seen x h) p)
    → clk ≡ clock_level (cond t (triggered h₁) h₁) → F < 2 ^ 40 → (reading_of s.constants.format F).number ≡ pos
    → Aloft F pos (cond t (triggered h₁) h₁) (Some (advanced s clk))
unfolding advanced
onward F pos half s p x h h₁ t clk tr f ck small reads =
    let p' = phase_ticked (seen x h) p in
    let st = stays_if t p' h₁ tr.mode (busy_active p' (flight_busy f)) in
    let c : clock_of p' ≡ clk = grind arith in
    record { sensor = advanced s clk; half = half; phase = p'; is = refl; mode = st.mode; flies = grind arith; small = small; reads = reads }

-- the transmission is over, and the Data Register shows the position
pub record Landed (pos : ℕ) (d : Channel) : Type 0 where
  pub over : transmits d ≡ false
  pub shows : data_shown d ≡ pos

lands : (F pos : ℕ) (s : Model) (p : Phase) (x : Levels) (h h₁ : Channel) (t : Bool) → Transmits x p h h₁ → Lands s.constants F (seen x h) p
    → (reading_of s.constants.format F).number ≡ pos → Landed pos (cond t (triggered h₁) h₁)
lands F pos s p x h h₁ t tr l reads =
    let st = stays_if t (Recovering 2599) h₁ (tr.mode ∙ ap Reading l.phase) refl in
    let w = l.word tr.before in
    grind arith

-- a rig tick: the transmission goes on, or it has landed
pub aloft_tick : {F pos : ℕ} {h : Channel} {o : Option Model} (x : Levels) (i expired t clk : Bool) (a : Aloft F pos h o) → x.b ≡ level_of a.sensor
    → clk ≡ clock_level (cond t (triggered (channel_ticked x i expired h)) (channel_ticked x i expired h))
    → (Aloft F pos (cond t (triggered (channel_ticked x i expired h)) (channel_ticked x i expired h)) (option_map (λ m. advanced m clk) o))
    ⊎ (Landed pos (cond t (triggered (channel_ticked x i expired h)) (channel_ticked x i expired h)))
unfolding level_of
aloft_tick {F} {pos} {h} {o} x i expired t clk a lv ck =
    let s = a.sensor in
    let h₁ = channel_ticked x i expired h in
    let tr = transmits_on x i expired a.phase h (flight_busy a.flies) a.mode in
    let AtLevel : Bool → Type 0 = λ v. Goes s.constants F a.half (ticked h.lines.timing) (filtered_at h v) s.phase s.clock s.position (filtered_at h v).level a.phase (phase_ticked (filtered_at h v).level a.phase) in
    let next : AtLevel x.b = subst AtLevel (sym lv) (flight_tick s.position a.small a.flies) in
    rw a.is (elim next [ inl f ↦ inl (onward F pos a.half s a.phase x h h₁ t clk tr f ck a.small a.reads) | inr l ↦ inr (lands F pos s a.phase x h h₁ t tr l a.reads) ])

-- the rig tick in which the clock first falls
pub aloft_first : (H : ℕ) (f : Format) (s : Model) (h : Channel) (x : Levels) (i expired t clk : Bool) → Sound s → Timed h → 3 * period_of h.debounce ≤ H
    → h.mode ≡ Reading (Clocking (started H f)) → f ≡ s.constants.format → s.phase ≡ Idle → s.clock ≡ true
    → clk ≡ clock_level (cond t (triggered (channel_ticked x i expired h)) (channel_ticked x i expired h))
    → Aloft (frame_of s.constants s.position) s.position (cond t (triggered (channel_ticked x i expired h)) (channel_ticked x i expired h)) (Some (advanced s clk))
aloft_first H f s h x i expired t clk sound timed slow m ef idle high ck =
    let F = frame_of s.constants s.position in
    let p = Clocking (started H f) in
    let tr = transmits_on x i expired p h refl m in
    let below : F < 2 ^ bits_of s.constants = frame_below s sound in
    let first = flight_first s.constants s.position H (ticked h.lines.timing) (filtered_at h x.b) (seen x h) (omega (arith, timed.0, timed.1)) below (slow_tick H h.lines.timing (record { sound = timed.0; half = omega (arith, timed.1, slow) })) in
    let flies : FlightAfter s.constants F H (ticked h.lines.timing) (filtered_at h x.b) s.phase s.clock s.position (phase_ticked (seen x h) p) = rw (ef, idle, high) first in
    let room : 2 ^ bits_of s.constants ≤ 2 ^ 40 = pow_mono {i = bits_of s.constants} {j = 40} (bits_most s.constants.format) in
    onward F s.position H s p x h (channel_ticked x i expired h) t clk tr flies ck (omega (arith, below, room)) (sent_is_read s sound).number
