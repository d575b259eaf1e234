-- The law of delivered positions, over every list of calls.
use Rattle.std.proofs.Common.{◌≡◌, ℕ, ◌<◌, Bool, true, false, cond, ◌⊎◌, List, [], ◌∷◌, length, IfSome, Some, Ok, Option, sym, refl, ap, ◌∙◌, subst, inl, inr, arith}
use Rattle.std.proofs.lemmas.List.{get_or-replicate}
use Rattle.std.proofs.lemmas.Bool.{both_ways}
use Rattle.bits.specs.Words.{word_flag}
use Rattle.controller.specs.declared.control.SsiControl.{SsiControl}
use Rattle.controller.specs.Control.{format_of}
use Rattle.controller.specs.Registers.{half_period}
use Rattle.sensor.specs.Model.{Model, Sound, frame_of, level_of}
use Rattle.field.specs.Wiring.{FieldModel, Sounds}
use Rattle.field.proofs.FieldLaws.{acts_at_lem, acts_elsewhere, turned_sounds}
use Rattle.rig_parts.proofs.ClockLaws.{clocked_at, clocked_sounds}
use Rattle.rig_parts.proofs.LineLaws.{composed_in1}
use Rattle.channel.specs.declared.channel.Channel.{Channel}
use Rattle.channel.specs.declared.mode.Mode.TheVariants.{Ssi as Reading}
use Rattle.channel.specs.Shares.{clock_level}
use Rattle.channel.specs.Snapshots.{transmits, triggered}
use Rattle.channel.specs.Ticks.{new_channel}
use Rattle.table.specs.Tables.{line_levels_at}
use Rattle.card.specs.Calls.{Card, powered_on, tick_done, tick_levels}
use Rattle.card.specs.Records.{blank, channel_of}
use Rattle.card.specs.Shared.{expiry}
use Rattle.runs.specs.declared.Call.TheVariants.{Tick as CardTick, Read, Write}
use Rattle.rig.specs.declared.calls.RigCall.{RigCall}
use Rattle.rig.specs.declared.calls.RigCall.TheVariants.{Card as OnCard, Tick, Turn}
use Rattle.rig.specs.Benches.{Bench, lines_on, new_bench, run_on, step_on}
use Rattle.delivered.specs.Delivery.{Allowed, Delivers, Fits, NoTick, Pending, UnderWay, asked_on, begun_on, busy, ended_on, nearly_on, quiet_on, ready_on, settings_of}
use Rattle.delivered.proofs.Changes.{Started, Timed, first_phase}
use Rattle.delivered.proofs.Moves.{Moves, read_moves, write_moves}
use Rattle.delivered.proofs.Ticks.{TickAt, clock_answer, own_tick, tick_then, tick_at_lem, timed_card_tick}
use Rattle.delivered.proofs.Aloft.{Aloft, Landed, aloft_busy, aloft_change, aloft_first, aloft_tick, aloft_turn}
use Rattle.delivered.proofs.Shown.{busy_is, data_is}

-- what holds after every list of calls: eight records, filters whose phase is below their period, sound sensors
record Sane (b : Bench) : Type 0 where
  eight : length b.card.channels ≡ 8
  timed : (k : ℕ) → k < 8 → Timed (channel_of k b.card)
  sounds : Sounds b.field

sane_new : (m : FieldModel) → Sounds m → Sane (new_bench m)
unfolding powered_on
sane_new m s = record { eight = refl; timed = λ k l. subst Timed (sym (get_or-replicate 8 k new_channel blank l)) (omega arith, refl); sounds = s }

sane_moves : {R : ℕ → Type 0} (b : Bench) (d : Card) → Sane b → ((k : ℕ) → k < 8 → Moves (R k) k b.card d) → Sane (record { card = d; field = b.field })
sane_moves b d s f =
    record { eight = (f 0 (omega arith)).eight ∙ s.eight; timed = λ k l. (f k l).change.timed (s.timed k l); sounds = s.sounds }

sane_tick : (b : Bench) (lines inputs : ℕ) (f : FieldModel) → Sane b → Sounds f → Sane (record { card = tick_done lines inputs b.card; field = f })
sane_tick b lines inputs f s g =
    record {
      eight = (tick_at_lem 0 lines inputs b.card (omega arith) s.eight).eight;
      timed = λ k l. timed_card_tick k lines inputs b.card (tick_done lines inputs b.card) (tick_at_lem k lines inputs b.card l s.eight) (s.timed k l);
      sounds = g;
    }

sane_step : (b : Bench) (x : RigCall) → Sane b → Sane (step_on b x)
sane_step b (OnCard (CardTick lines inputs)) s = sane_tick b lines inputs b.field s s.sounds
sane_step b (OnCard (Read o)) s = sane_moves {R = λ k. ⊥} b _ s (λ k l. read_moves o k b.card l s.eight)
sane_step b (OnCard (Write o v)) s = sane_moves b _ s (λ k l. write_moves o v k b.card l s.eight)
sane_step b (Tick lines inputs) s = sane_tick b (lines_on b lines) inputs _ s (clocked_sounds b.field _ s.sounds)
sane_step b (Turn j p) s = record { eight = s.eight; timed = s.timed; sounds = turned_sounds b.field j p s.sounds }

sane_run : (xs : List RigCall) (b : Bench) → Sane b → Sane (run_on b xs)
sane_run [] b s = s
sane_run (x ∷ xs) b s = sane_run xs (step_on b x) (sane_step b x s)

-- the record of channel k
abbrev own : ℕ → Bench → Channel
own k b = channel_of k b.card

-- a call after which there is a transmission, and before which there was none
tick_started : (k lines inputs : ℕ) (c d : Card) → TickAt k lines inputs c d → transmits (channel_of k c) ≡ false → transmits (channel_of k d) ≡ true → Started (channel_of k d)
tick_started k lines inputs c d t q =
    rw t.is (tick_then t.triggers (line_levels_at lines k) (word_flag inputs k) (expiry c.shared) (channel_of k c) q)

starts : (k : ℕ) (b : Bench) (x : RigCall) → k < 8 → Sane b → transmits (own k b) ≡ false → transmits (own k (step_on b x)) ≡ true → Started (own k (step_on b x))
starts k b (OnCard (CardTick lines inputs)) l s q e = tick_started k lines inputs b.card _ (tick_at_lem k lines inputs b.card l s.eight) q e
starts k b (OnCard (Read o)) l s q e = (read_moves {R = ⊥} o k b.card l s.eight).change.starts q e
starts k b (OnCard (Write o v)) l s q e = (write_moves o v k b.card l s.eight).change.starts q e
starts k b (Tick lines inputs) l s q e = tick_started k (lines_on b lines) inputs b.card _ (tick_at_lem k (lines_on b lines) inputs b.card l s.eight) q e
starts k b (Turn j p) l s q e = absurd (both_ways _ q e)

-- calls without a tick leave the controller as it is, while it is busy
pending_step : (k : ℕ) (b : Bench) (z : RigCall) → k < 8 → Sane b → NoTick z → transmits (own k b) ≡ true → transmits (own k (step_on b z)) ≡ true → (own k (step_on b z)).mode ≡ (own k b).mode
pending_step k b (OnCard (CardTick lines inputs)) l s n q e = absurd n
pending_step k b (OnCard (Read o)) l s n q e = (read_moves {R = ⊥} o k b.card l s.eight).change.mode q e
pending_step k b (OnCard (Write o v)) l s n q e = (write_moves o v k b.card l s.eight).change.mode q e
pending_step k b (Tick lines inputs) l s n q e = absurd n
pending_step k b (Turn j p) l s n q e = refl

pending_busy : (k : ℕ) (b : Bench) (zs : List RigCall) → Pending k b zs → busy k b ≡ true
pending_busy k b [] u = u
pending_busy k b (z ∷ zs) u = u.0

transmits_at : (k : ℕ) (b : Bench) (v : Bool) → k < 8 → busy k b ≡ v → transmits (own k b) ≡ v
transmits_at k b v l e = sym (busy_is k b l) ∙ e

pending_run : (k : ℕ) (zs : List RigCall) (b : Bench) → k < 8 → Sane b → Pending k b zs → (own k (run_on b zs)).mode ≡ (own k b).mode
pending_run k [] b l s u = refl
pending_run k (z ∷ zs) b l s u =
    pending_run k zs (step_on b z) l (sane_step b z s) u.2
    ∙ pending_step k b z l s u.1 (transmits_at k b true l u.0) (transmits_at k (step_on b z) true l (pending_busy k (step_on b z) zs u.2))

-- a rig tick's lines and clock answers at channel k
line_at : (k lines : ℕ) (b : Bench) (s : Model) → k < 8 → b.field k ≡ Some s → (line_levels_at (lines_on b lines) k).b ≡ level_of s
line_at k lines b s l e = grind (arith, composed_in1)

abbrev clock_on : ℕ → Bench → ℕ → ℕ → Bool
clock_on k b lines inputs = word_flag (tick_levels (lines_on b lines) inputs b.card).clocks k

clock_at_lem : (k lines inputs : ℕ) (b : Bench) → k < 8 → (t : TickAt k (lines_on b lines) inputs b.card (tick_done (lines_on b lines) inputs b.card))
    → clock_on k b lines inputs ≡ clock_level (cond t.triggers (triggered (own_tick k (lines_on b lines) inputs b.card)) (own_tick k (lines_on b lines) inputs b.card))
clock_at_lem k lines inputs b l t = clock_answer k (lines_on b lines) inputs b.card l t.eight ∙ ap clock_level t.is

-- a transmission under way at channel k of a bench
abbrev AloftOn : ℕ → ℕ → ℕ → Bench → Type 0
AloftOn k F pos b = Aloft F pos (own k b) (b.field k)

rig_tick : (k lines inputs F pos : ℕ) (b : Bench) → k < 8 → Sane b → AloftOn k F pos b
    → (AloftOn k F pos (step_on b (Tick lines inputs))) ⊎ (Landed pos (own k (step_on b (Tick lines inputs))))
rig_tick k lines inputs F pos b l s a =
    let t = tick_at_lem k (lines_on b lines) inputs b.card l s.eight in
    rw (clocked_at b.field (tick_levels (lines_on b lines) inputs b.card).clocks k, t.is)
    (aloft_tick (line_levels_at (lines_on b lines) k) (word_flag inputs k) (expiry b.card.shared) t.triggers (clock_on k b lines inputs) a (line_at k lines b a.sensor l a.is) (clock_at_lem k lines inputs b l t))

turn_step : (k j p F pos : ℕ) (b : Bench) → AloftOn k F pos b → AloftOn k F pos (step_on b (Turn j p))
turn_step k j p F pos b a =
    let n = aloft_turn p a in
    grind (arith, acts_at_lem, acts_elsewhere)

-- an allowed call
under_step : (k F pos : ℕ) (b : Bench) (y : RigCall) → k < 8 → Sane b → Allowed k y → transmits (own k (step_on b y)) ≡ true → AloftOn k F pos b → AloftOn k F pos (step_on b y)
under_step k F pos b (OnCard (CardTick lines inputs)) l s w e a = absurd w
under_step k F pos b (OnCard (Read o)) l s w e a = aloft_change {R = ⊥} (λ z. z) (read_moves o k b.card l s.eight).change e a
under_step k F pos b (OnCard (Write o v)) l s w e a = aloft_change w (write_moves o v k b.card l s.eight).change e a
under_step k F pos b (Tick lines inputs) l s w e a = elim (rig_tick k lines inputs F pos b l s a) [ inl f ↦ f | inr d ↦ absurd (both_ways _ d.over e) ]
under_step k F pos b (Turn j p) l s w e a = turn_step k j p F pos b a

under_busy : (k : ℕ) (b : Bench) (ys : List RigCall) → UnderWay k b ys → busy k b ≡ true
under_busy k b [] u = u
under_busy k b (y ∷ ys) u = u.0

under_run : (k F pos : ℕ) (ys : List RigCall) (b : Bench) → k < 8 → Sane b → UnderWay k b ys → AloftOn k F pos b → AloftOn k F pos (run_on b ys)
under_run k F pos [] b l s u a = a
under_run k F pos (y ∷ ys) b l s u a =
    under_run k F pos ys (step_on b y) l (sane_step b y s) u.2
    (under_step k F pos b y l s u.1 (transmits_at k (step_on b y) true l (under_busy k (step_on b y) ys u.2)) a)

-- the rig tick after which it is over
last_tick : (k lines inputs F pos : ℕ) (b : Bench) → k < 8 → Sane b → AloftOn k F pos b → transmits (own k (step_on b (Tick lines inputs))) ≡ false → Landed pos (own k (step_on b (Tick lines inputs)))
last_tick k lines inputs F pos b l s a e = elim (rig_tick k lines inputs F pos b l s a) [ inl f ↦ absurd (both_ways _ e (aloft_busy f)) | inr d ↦ d ]

-- the rig tick in which the clock first falls
first_tick : (k lines inputs : ℕ) (c : SsiControl) (b : Bench) (s : Model) → k < 8 → Sane b → (own k b).mode ≡ Reading (first_phase c) → Fits k c b s
    → AloftOn k (frame_of s.constants s.position) s.position (step_on b (Tick lines inputs))
first_tick k lines inputs c b s l g m f =
    let F = frame_of s.constants s.position in
    let t = tick_at_lem k (lines_on b lines) inputs b.card l g.eight in
    let clk = clock_on k b lines inputs in
    let sound : Sound s = subst (λ (o : Option Model). IfSome o Sound) f.plugged (g.sounds.each k) in
    let first = aloft_first (half_period c) (format_of c) s (own k b) (line_levels_at (lines_on b lines) k) (word_flag inputs k) (expiry b.card.shared) t.triggers clk sound (g.timed k l) f.slow m f.format f.idle f.clock (clock_at_lem k lines inputs b l t) in
    rw (clocked_at b.field (tick_levels (lines_on b lines) inputs b.card).clocks k, f.plugged, t.is) first

pub delivers : Delivers
delivers k l m sounds t s c =
    let F = frame_of s.constants s.position in
    let quiet : Sane (quiet_on m t) = sane_run t.before (new_bench m) (sane_new m sounds) in
    let asked : Sane (asked_on m t) = sane_step (quiet_on m t) t.request quiet in
    let ready : Sane (ready_on m t) = sane_run t.pending (asked_on m t) asked in
    let begun : Sane (begun_on m t) = sane_step (ready_on m t) (Tick t.first_lines t.first_inputs) ready in
    let nearly : Sane (nearly_on m t) = sane_run t.meanwhile (begun_on m t) begun in
    let started : Started (own k (asked_on m t)) =
    starts k (quiet_on m t) t.request l quiet (transmits_at k (quiet_on m t) false l c.quiet)
    (transmits_at k (asked_on m t) true l (pending_busy k (asked_on m t) t.pending c.accepted)) in
    let first : AloftOn k F s.position (begun_on m t) =
    first_tick k t.first_lines t.first_inputs (settings_of k (asked_on m t)) (ready_on m t) s l ready (pending_run k t.pending (asked_on m t) l asked c.accepted ∙ started) c.fits in
    let aloft : AloftOn k F s.position (nearly_on m t) = under_run k F s.position t.meanwhile (begun_on m t) l begun c.underway first in
    let landed : Landed s.position (own k (ended_on m t)) =
    last_tick k t.last_lines t.last_inputs F s.position (nearly_on m t) l nearly aloft (transmits_at k (ended_on m t) false l c.over) in
    data_is k (ended_on m t) l ∙ ap Ok landed.shows
