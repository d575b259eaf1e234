-- A channel's part of a snapshot.
use Rattle.std.specs.Prelude.{Bool, true, false, cond, ℕ}
use Rattle.parts.specs.declared.snapshot.Progress.{Progress}
use Rattle.parts.specs.declared.snapshot.Progress.TheVariants.{Read, Collecting, Unread}
use Rattle.parts.specs.declared.snapshot.Snapshot.{Snapshot}

-- not enabled, no word
abbrev pub emptied : Snapshot
emptied = record { enabled = false; word = 0; progress = Read }

-- a word that is there, unread
abbrev pub latched_with : ℕ → Snapshot → Snapshot
latched_with w s = record { enabled = s.enabled; word = w; progress = Unread }

-- a transmission is to give the word; the earlier word stays until then
abbrev pub collects : Snapshot → Snapshot
collects s = record { enabled = s.enabled; word = s.word; progress = Collecting }

-- a transmission ends with a word: it is taken where one was collected
abbrev pub completed_at : Progress → ℕ → Snapshot → Snapshot
completed_at Read w s = s
completed_at Collecting w s = latched_with w s
completed_at Unread w s = s

abbrev pub completed : ℕ → Snapshot → Snapshot
completed w s = completed_at s.progress w s

abbrev pub cleared : Snapshot → Snapshot
cleared s = record { enabled = s.enabled; word = 0; progress = Read }

-- a channel that leaves the snapshot loses its part and word
abbrev pub enabled_as : Bool → Snapshot → Snapshot
enabled_as on s = record { enabled = on; word = cond on s.word 0; progress = cond on s.progress Read }

-- a read makes the word read, unless it is still collected
abbrev pub after_reading_at : Progress → Progress
after_reading_at Read = Read
after_reading_at Collecting = Collecting
after_reading_at Unread = Read

abbrev pub after_reading : Snapshot → Snapshot
after_reading s = record { enabled = s.enabled; word = s.word; progress = after_reading_at s.progress }

abbrev pub is_collecting_at : Progress → Bool
is_collecting_at Read = false
is_collecting_at Collecting = true
is_collecting_at Unread = false

abbrev pub is_collecting : Snapshot → Bool
is_collecting s = is_collecting_at s.progress

abbrev pub is_unread_at : Progress → Bool
is_unread_at Read = false
is_unread_at Collecting = false
is_unread_at Unread = true

abbrev pub is_unread : Snapshot → Bool
is_unread s = is_unread_at s.progress
