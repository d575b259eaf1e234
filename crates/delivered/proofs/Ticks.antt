-- A tick of the card, seen at one channel.
use Rattle.std.proofs.Common.{◌≡◌, ℕ, zero, suc, ◌+◌, ◌*◌, ◌/◌, ◌%◌, ◌^◌, ◌<◌, Bool, true, false, cond, ◌&&◌, eqb, List, [], ◌∷◌, length, get_or, sym, ap, ◌∙◌, arith}
use Rattle.std.proofs.lemmas.Nat.{shr-shr}
use Rattle.std.proofs.lemmas.Grind.{common_steps}
use Rattle.bits.specs.Words.{bit_at, word_flag}
use Rattle.filter.specs.Filters.{line_filtered, samples_in}
use Rattle.filter.proofs.Held.{tick_period, tick_sound}
use Rattle.counter_count.specs.declared.levels.Levels.{Levels}
use Rattle.controller.specs.declared.phase.Phase.{Phase}
use Rattle.controller.specs.declared.phase.Phase.TheVariants.{Recovering}
use Rattle.controller.specs.declared.registers.Ssi.{Ssi}
use Rattle.controller.specs.Phase.{active_in, busy_in, phase_ticked}
use Rattle.controller.specs.Registers.{phase_requested, requested as ssi_requested, ticked as ssi_ticked}
use Rattle.channel.specs.declared.act.Bit.TheVariants.{Clock}
use Rattle.channel.specs.declared.act.Share.TheVariants.{Single}
use Rattle.channel.specs.declared.channel.Channel.{Channel}
use Rattle.channel.specs.declared.mode.Mode.TheVariants.{Ssi as Reading}
use Rattle.channel.specs.Lines.{lines_ticked}
use Rattle.channel.specs.Records.{with_mode}
use Rattle.channel.specs.Shares.{bit_of, clock_level, performed, share_of}
use Rattle.channel.specs.Snapshots.{transmits, triggered}
use Rattle.channel.specs.Ticks.{channel_ticked, observed, timer_requested}
use Rattle.table.specs.Tables.{gathered, line_levels_at, table_ticked, tick_at, word_of}
use Rattle.table.proofs.Loops.{get_d_changed, length_changed}
use Rattle.card.specs.Calls.{Card, channels_ticked, tick_done, tick_levels}
use Rattle.card.specs.Records.{blank, channel_of}
use Rattle.card.specs.Shared.{expiry}
use Rattle.card.specs.Snapshots.{timer_triggered}
use Rattle.delivered.proofs.Changes.{Started, Timed, filtering}
use Rattle.delivered.proofs.Moves.{acted_at, acted_length}

-- the level of the data line after its filter
abbrev pub seen : Levels → Channel → Bool
seen x h = (line_filtered (samples_in h.lines.timing) x.b h.lines.b).level

-- a tick of a channel whose transmission is under way
pub record Transmits (x : Levels) (p : Phase) (h d : Channel) : Type 0 where
  pub lines : d.lines ≡ lines_ticked x h.lines
  pub mode : d.mode ≡ Reading (phase_ticked (seen x h) p)
  pub before : Ssi
  pub ssi : d.ssi ≡ ssi_ticked (seen x h) p before

pub transmits_on : (x : Levels) (i expired : Bool) (p : Phase) (h : Channel) → busy_in p ≡ true → h.mode ≡ Reading p → Transmits x p h (channel_ticked x i expired h)
unfolding channel_ticked phase_requested ssi_requested
transmits_on x i expired p h b e =
    record { lines = grind arith; mode = grind arith; before = (timer_requested expired (observed x i h)).ssi; ssi = grind arith }

-- a trigger or none leaves a controller that is not waiting as it is
pub record Stays (p : Phase) (h d : Channel) : Type 0 where
  pub mode : d.mode ≡ Reading p
  pub lines : d.lines ≡ h.lines
  pub word : d.ssi.word ≡ h.ssi.word
  pub control : d.ssi.control ≡ h.ssi.control

pub stays_if : (t : Bool) (p : Phase) (h : Channel) → h.mode ≡ Reading p → active_in p ≡ true → Stays p h (cond t (triggered h) h)
unfolding phase_requested ssi_requested
stays_if t p h e a = grind arith

-- a controller that recovers begins nothing in a tick
pub recovering_tick : (x : Levels) (i expired : Bool) (n : ℕ) (h : Channel) → transmits (channel_ticked x i expired (with_mode (Reading (Recovering n)) h)) ≡ false
unfolding channel_ticked phase_requested ssi_requested phase_ticked
recovering_tick x i expired n h = grind arith

tick_starts : (x : Levels) (i expired : Bool) (h : Channel) → transmits h ≡ false → transmits (channel_ticked x i expired h) ≡ true → Started (channel_ticked x i expired h)
unfolding channel_ticked phase_requested ssi_requested phase_ticked
tick_starts x i expired h q b = grind arith

-- a tick with a trigger or none
pub tick_then : (t : Bool) (x : Levels) (i expired : Bool) (h : Channel) → transmits h ≡ false
    → transmits (cond t (triggered (channel_ticked x i expired h)) (channel_ticked x i expired h)) ≡ true
    → Started (cond t (triggered (channel_ticked x i expired h)) (channel_ticked x i expired h))
unfolding phase_requested ssi_requested
tick_then t x i expired h q b = grind (arith, tick_starts)

-- a tick moves the filters of the lines and leaves their register, whatever the channel does
pub tick_lines : (x : Levels) (i expired : Bool) (h : Channel) → filtering (channel_ticked x i expired h) ≡ record { lines = lines_ticked x h.lines; debounce = h.debounce }
unfolding channel_ticked
tick_lines x i expired h = grind arith

-- so they keep their pace
pub timed_tick : (x : Levels) (i expired : Bool) (h : Channel) → Timed h → Timed (channel_ticked x i expired h)
unfolding channel_ticked
timed_tick x i expired h s = grind (arith, tick_sound, tick_period)

-- channel k's own part of the table's tick
abbrev pub own_tick : ℕ → ℕ → ℕ → Card → Channel
own_tick k lines inputs c = channel_ticked (line_levels_at lines k) (word_flag inputs k) (expiry c.shared) (channel_of k c)

ticked_at : (k lines inputs : ℕ) (c : Card) → k < 8 → length c.channels ≡ 8 → channel_of k (channels_ticked lines inputs c) ≡ own_tick k lines inputs c
unfolding table_ticked
ticked_at k lines inputs c l e = get_d_changed (tick_at lines inputs (expiry c.shared)) 0 8 k k c.channels blank l (omega arith) (omega arith)

ticked_length : (lines inputs : ℕ) (c : Card) → length (channels_ticked lines inputs c).channels ≡ length c.channels
unfolding table_ticked
ticked_length lines inputs c = length_changed (tick_at lines inputs (expiry c.shared)) 0 8 c.channels

-- the record of channel k after a tick: its own part, and then a trigger or none
pub record TickAt (k lines inputs : ℕ) (c d : Card) : Type 0 where
  pub eight : length d.channels ≡ 8
  pub triggers : Bool
  pub is : channel_of k d ≡ cond triggers (triggered (own_tick k lines inputs c)) (own_tick k lines inputs c)

pub tick_at_lem : (k lines inputs : ℕ) (c : Card) → k < 8 → length c.channels ≡ 8 → TickAt k lines inputs c (tick_done lines inputs c)
unfolding tick_done performed
tick_at_lem k lines inputs c l e =
    let d = channels_ticked lines inputs c in
    let at = ticked_at k lines inputs c l e in
    let same = ticked_length lines inputs c in
    record { eight = grind (arith, acted_length); triggers = expiry c.shared && d.shared.timer_triggers; is = grind (arith, acted_at) }

pub timed_card_tick : (k lines inputs : ℕ) (c d : Card) → TickAt k lines inputs c d → Timed (channel_of k c) → Timed (channel_of k d)
timed_card_tick k lines inputs c d t s = grind (arith, timed_tick)

-- bit k of the clock answers is channel k's clock
first_flag : (b : Bool) (w : ℕ) → word_flag (bit_at 0 b + 2 ^ 1 * w) 0 ≡ b
first_flag b w = grind (arith, common_steps)

next_flag : (b : Bool) (w k : ℕ) → word_flag (bit_at 0 b + 2 ^ 1 * w) (suc k) ≡ word_flag w k
next_flag b w k =
    let half : (bit_at 0 b + 2 ^ 1 * w) / 2 ≡ w = grind arith in
    let e : (bit_at 0 b + 2 ^ 1 * w) / 2 ^ (1 + k) ≡ w / 2 ^ k = sym (shr-shr (bit_at 0 b + 2 ^ 1 * w) 1 k) ∙ ap (λ n. n / 2 ^ k) half in
    let s : suc k ≡ 1 + k = omega arith in
    ap (λ n. eqb ((bit_at 0 b + 2 ^ 1 * w) / 2 ^ n % 2) 1) s ∙ ap (λ n. eqb (n % 2) 1) e

clock_flag : (k : ℕ) (t : List Channel) → k < length t → word_flag (word_of 1 (share_of (Single Clock)) t) k ≡ clock_level (get_or t k blank)
unfolding share_of bit_of
clock_flag k [] l = absurd (omega arith)
clock_flag zero (h ∷ t) l = first_flag (clock_level h) (word_of 1 (share_of (Single Clock)) t)
clock_flag (suc k) (h ∷ t) l = next_flag (clock_level h) (word_of 1 (share_of (Single Clock)) t) k ∙ clock_flag k t (omega arith)

pub clock_answer : (k lines inputs : ℕ) (c : Card) → k < 8 → length (tick_done lines inputs c).channels ≡ 8 → word_flag (tick_levels lines inputs c).clocks k ≡ clock_level (channel_of k (tick_done lines inputs c))
unfolding tick_done tick_levels gathered
clock_answer k lines inputs c l e = clock_flag k (timer_triggered (expiry c.shared) (channels_ticked lines inputs c)).channels (omega (arith, e))
