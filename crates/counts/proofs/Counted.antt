-- The law of counts, call by call.
use Rattle.std.proofs.Common.{◌≡◌, ℕ, ◌%◌, ◌<◌, Bool, true, false, cond, not, ◌||◌, eqb, ltb, List, [], ◌∷◌, Ok, Err, Result, sym, refl, ap, ◌∙◌, subst, arith}
use lib.ListN.{length-replicate, get_or-replicate}
use Rattle.std.proofs.lemmas.Bool.{cond_both}
use Rattle.refusal.specs.declared.Refusal.{Refusal}
use Rattle.refusal.specs.declared.Refusal.TheVariants.{Offset}
use Rattle.channel.specs.Registers.{register_written}
use Rattle.channel.specs.Ticks.{new_channel}
use Rattle.card.specs.Calls.{Card, card_after_write, given, powered_on, write_done}
use Rattle.card.specs.Records.{blank, channel_of}
use Rattle.card.specs.SharedRegisters.{shared_written}
use Rattle.card.specs.Registers.{channel_at, in_channels, place_at, register_set, setting_checked}
use Rattle.card.proofs.Refused.{refused_record}
use Rattle.runs.specs.declared.Call.{Call}
use Rattle.runs.specs.declared.Call.TheVariants.{Tick, Read, Write}
use Rattle.runs.specs.Runs.{run, step}
use Rattle.counts.specs.Tallies.{ChannelTally, levels_on, power_on_tally, tallied, tally_over, tally_step, tally_written}
use Rattle.counts.specs.Laws.{AllFit, Counts}
use Rattle.counts.proofs.Bounds.{Small, step_bound}
use Rattle.counts.proofs.Cards.{Showing, card_read, altered, card_ticked, shared_written_lem}
use Rattle.counts.proofs.Offsets.{own_hits, own_misses, refused_misses, shared_hits}
use Rattle.counts.proofs.Parts.{Part, part}
use Rattle.counts.proofs.Registers.{part_written, written_part}
use Rattle.counts.proofs.Stands.{standing, tick_stands}

-- a write that is refused for its setting would leave the card
refused_set : (o v : ℕ) (c : Card) (e : Refusal) → setting_checked o v ≡ Err e → register_set o v c ≡ c
refused_set o v c e q = grind (arith, refused_record c o v e (register_written (place_at o) v (channel_of (channel_at o) c)))

-- a refusal leaves the card
write_kept : (b : Bool) (r : Result (Unit {0}) Refusal) (c d : Card) → ((e : Refusal) → r ≡ Err e → d ≡ c)
    → card_after_write c (given (cond b (Err Offset) (Ok tt)) (given r (Ok d))) ≡ cond b c d
write_kept true r c d f = refl
write_kept false (Ok u) c d f = refl
write_kept false (Err e) c d f = sym (f e refl)

module _ (k : ℕ) (h : k < 8) where
  -- a write that is not refused for its setting
  register_set_lem : (o v : ℕ) (c : Card) (t : ChannelTally) → Small t → Showing k (standing t) c
      → Showing k (standing (tally_written k o v t)) (register_set o v c)
  register_set_lem o v c t b s =
      cond_both (in_channels o) _ _ (Showing k (standing (tally_written k o v t)))
      (λ e. altered k h (channel_at o) (register_written (place_at o) v)
      (λ q x i. written_part (place_at o) v x ∙ (ap (part_written (place_at o) v) i ∙ sym (own_hits k o v t e q b)))
      (λ n. sym (ap standing (own_misses k o v t e n))) s)
      (λ e. subst (λ (p : Part). Showing k p (shared_written o v c)) (sym (shared_hits k o v t h e b)) (shared_written_lem k h o v c s))

  -- a write, accepted or refused
  card_written : (o v : ℕ) (c : Card) (t : ChannelTally) → Small t → Showing k (standing t) c
      → Showing k (standing (tally_written k o v t)) (card_after_write c (write_done c o v))
  unfolding write_done
  card_written o v c t b s =
      let After : Card → Type 0 = Showing k (standing (tally_written k o v t)) in
      let refused = not (eqb (o % 4) 0) || ltb 508 o in
      subst After (sym (write_kept refused (setting_checked o v) c (register_set o v c) (refused_set o v c))) (cond_both refused _ _ After
      (λ e. rw (refused_misses k o v t h e) s)
      (λ e. register_set_lem o v c t b s))

  -- one call
  step_shows : (x : Call) (c : Card) (t : ChannelTally) → Small t → Showing k (standing t) c → Showing k (standing (tally_step k t x)) (step c x)
  step_shows (Tick lines inputs) c t b s =
      subst (λ (p : Part). Showing k p (step c (Tick lines inputs))) (sym (tick_stands (levels_on k lines) t b)) (card_ticked k h lines inputs c s)
  step_shows (Read o) c t b s = card_read k h o c s
  step_shows (Write o v) c t b s = card_written o v c t b s

  -- every call
  run_shows : (xs : List Call) → AllFit xs → (c : Card) (t : ChannelTally) → Small t → Showing k (standing t) c
      → Showing k (standing (tally_over k t xs)) (run c xs)
  run_shows [] f c t b s = s
  run_shows (x ∷ xs) f c t b s = run_shows xs f.1 (step c x) (tally_step k t x) (step_bound k x t f.0 b) (step_shows x c t b s)

  power_on_shows : Showing k (standing power_on_tally) powered_on
  unfolding powered_on
  power_on_shows = record { full = length-replicate 8 new_channel; is = ap part (get_or-replicate 8 k new_channel blank h) }

-- a channel's record shows what its tally stands for
pub tally_shown : (k : ℕ) → k < 8 → (xs : List Call) → AllFit xs → part (channel_of k (run powered_on xs)) ≡ standing (tallied k xs)
tally_shown k h xs f = (run_shows k h xs f powered_on power_on_tally (omega arith) (power_on_shows k h)).is

pub counts_stand_lem : Counts
counts_stand_lem k h xs f = ap (λ (p : Part). p.count.value) (tally_shown k h xs f)
