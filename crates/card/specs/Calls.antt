-- What each call of the card answers, and the card after it.
use Rattle.std.specs.Prelude.{ℕ, replicate, Ok, Err, Result}
use Rattle.refusal.specs.declared.Refusal.{Refusal}
use Rattle.channel.specs.Ticks.{new_channel}
use Rattle.table.specs.Tables.{table_ticked}
use Rattle.card.specs.declared.Card.{Card as State}
use Rattle.card.specs.declared.Levels.{Levels as Answered}
use Rattle.card.specs.Registers.{offset_checked, register_read, register_set, register_value, setting_checked}
use Rattle.card.specs.Shared.{expiry, new_shared, shared_ticked}
use Rattle.card.specs.Snapshots.{timer_triggered}
use Rattle.card.specs.Words.{levels_now}

-- the card's state, under one name wherever its struct is declared
abbrev pub Card : Type 0
Card = State

-- the levels that a tick answers, likewise
abbrev pub Levels : Type 0
Levels = Answered

-- an accepted read: the value, and the card after it
pub record Got : Type 0 where
  pub value : ℕ
  pub card : Card

-- what a read answers
abbrev pub value_of : Result Got Refusal → Result ℕ Refusal
value_of (Ok g) = Ok g.value
value_of (Err e) = Err e

-- the card after a read: a refusal leaves it as it was
abbrev pub card_after_read : Card → Result Got Refusal → Card
card_after_read k (Ok g) = g.card
card_after_read k (Err e) = k

-- whether a read is refused
abbrev pub allowed : Result Got Refusal → Result (Unit {0}) Refusal
allowed (Ok g) = Ok tt
allowed (Err e) = Err e

-- what a write answers
abbrev pub accepted : Result Card Refusal → Result (Unit {0}) Refusal
accepted (Ok k) = Ok tt
accepted (Err e) = Err e

-- the card after a write: a refusal leaves it as it was
abbrev pub card_after_write : Card → Result Card Refusal → Card
card_after_write k (Ok k') = k'
card_after_write k (Err e) = k

-- what follows where a check passes
abbrev pub given : {A : Type 0} → Result (Unit {0}) Refusal → Result A Refusal → Result A Refusal
given (Ok u) done = done
given (Err e) done = Err e

-- the card after power-on: eight new channels
unfoldable pub powered_on : Card
powered_on = record { channels = replicate 8 new_channel; shared = new_shared }

-- the table's tick: every channel's, with the timer's expiry
abbrev pub channels_ticked : ℕ → ℕ → Card → Card
channels_ticked lines inputs k = record { channels = table_ticked lines inputs (expiry k.shared) k.channels; shared = shared_ticked k.shared }

-- the card after a tick: the timer, the channels, then the timer's snapshot
unfoldable pub tick_done : ℕ → ℕ → Card → Card
tick_done lines inputs k = timer_triggered (expiry k.shared) (channels_ticked lines inputs k)

-- what a tick answers: the levels that the card drives after it
unfoldable pub tick_levels : ℕ → ℕ → Card → Levels
tick_levels lines inputs k = levels_now (timer_triggered (expiry k.shared) (channels_ticked lines inputs k))

-- a read
unfoldable pub read_done : Card → ℕ → Result Got Refusal
read_done k o = given (offset_checked o) (Ok (record { value = register_value o k; card = register_read o k }))

-- a write
unfoldable pub write_done : Card → ℕ → ℕ → Result Card Refusal
write_done k o v = given (offset_checked o) (given (setting_checked o v) (Ok (register_set o v k)))
