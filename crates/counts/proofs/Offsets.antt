-- Which registers an offset names, for the card and for channel k's tally.
use Rattle.std.proofs.Common.{◌≡◌, ℕ, ◌+◌, ◌*◌, ◌%◌, ◌<◌, ◌≤◌, true, false, cond, not, ◌||◌, eqb, ltb, arith}
use Rattle.std.proofs.lemmas.Bool.Decides.{nat_tests}
use Rattle.card.specs.Registers.{channel_at, in_channels, place_at}
use Rattle.counts.specs.Tallies.{ChannelTally, setting_at, tally_written}
use Rattle.counts.proofs.Bounds.{Small}
use Rattle.counts.proofs.Registers.{part_written}
use Rattle.counts.proofs.Stands.{command_stands, control_stands, load_stands, mode_stands, standing}
use Rattle.bits.specs.Words.{word_field, word_flag}
use Rattle.counts.proofs.Parts.{part_loaded, part_mode}

-- a write in channel k's span, and in another channel's
pub own_hits : (k o v : ℕ) (t : ChannelTally) → in_channels o ≡ true → channel_at o ≡ k → Small t
    → standing (tally_written k o v t) ≡ part_written (place_at o) v (standing t)
own_hits k o v t l e h = grind (arith, nat_tests, control_stands v t, command_stands v t h)

pub own_misses : (k o v : ℕ) (t : ChannelTally) → in_channels o ≡ true → (channel_at o ≡ k → ⊥) → tally_written k o v t ≡ t
own_misses k o v t l n = grind (arith, nat_tests)

-- a write outside the spans
pub shared_hits : (k o v : ℕ) (t : ChannelTally) → k < 8 → in_channels o ≡ false → Small t
    → standing (tally_written k o v t)
    ≡ cond (eqb o 0) (part_mode (setting_at (word_field v (2 * k) 2)) (standing t)) (cond (eqb o 4) (part_loaded (word_flag v k) (standing t)) (standing t))
shared_hits k o v t h e b = grind (arith, nat_tests, mode_stands (setting_at (word_field v (2 * k) 2)) t, load_stands (word_flag v k) t b)

-- an offset that the card refuses is no register
pub refused_misses : (k o v : ℕ) (t : ChannelTally) → k < 8 → (not (eqb (o % 4) 0) || ltb 508 o) ≡ true → tally_written k o v t ≡ t
refused_misses k o v t h e = grind (arith, nat_tests)

-- an offset outside channel k's registers
abbrev pub Outside : ℕ → ℕ → Type 0
Outside k o = 16 + 40 * k ≤ o → o < 56 + 40 * k → o % 4 ≡ 0 → ⊥

-- a write that names no register of channel k, nor one of the first two
pub misses : (k o v : ℕ) (t : ChannelTally) → (o ≡ 0 → ⊥) → (o ≡ 4 → ⊥) → Outside k o → tally_written k o v t ≡ t
misses k o v t a b n = grind (arith, nat_tests)
