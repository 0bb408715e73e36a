-- What stands in a whole history: stops, moments, signals, and how many rows it holds.
use Rattle.std.specs.Prelude.{ℕ, zero, suc, min, ◌+◌, ◌-◌, ◌^◌, List, [], ◌∷◌, Bool, true, false, if◌then◌else◌, length, Option, Some, bytes_eq}
use Rattle.std.specs.List.{sum_by}
use Rattle.inno_types.specs.declared.reply.Item.{Item}
use Rattle.inno_types.specs.declared.reply.Item.TheVariants as items
use Rattle.inno_types.specs.declared.reply.Reply.{Reply}
use Rattle.inno_types.specs.declared.reply.Reply.TheVariants as replies
use Rattle.inno_db.specs.declared.change.Change.TheVariants as changes
use Rattle.inno_db.specs.Database.{Database, rows_of}
use Rattle.inno_model.specs.declared.event.Event.{Event}
use Rattle.inno_model.specs.declared.event.Event.TheVariants as events
use Rattle.inno_model.specs.Past.{under_way}

-- the engine has stopped
abbrev pub has_stopped : List Event → Bool
has_stopped [] = false
has_stopped (events.Stopped cause ∷ past) = true
has_stopped (other ∷ past) = has_stopped past

-- the moment of the last acknowledgement
abbrev pub last_moment : List Event → ℕ
last_moment [] = 0
last_moment (events.Acked s moment ∷ past) = moment
last_moment (other ∷ past) = last_moment past

-- ---- signals

-- how often the name was signalled
abbrev pub signals : List ℕ → List Event → ℕ
signals name [] = 0
signals name (events.Signal other ∷ past) = if bytes_eq other name then signals name past + 1 else signals name past
signals name (other ∷ past) = signals name past

abbrev pub is_signal_of : List ℕ → Option Item → Bool
is_signal_of name (Some (items.Signal other)) = bytes_eq other name
is_signal_of name other = false

-- by how many items it was to be
abbrev pub signals_asked : List ℕ → List Event → ℕ
signals_asked name [] = 0
signals_asked name (events.Started s j item ∷ past) = if is_signal_of name (Some item) then signals_asked name past + 1 else signals_asked name past
signals_asked name (other ∷ past) = signals_asked name past

-- how many of these were done
abbrev pub signals_done : List ℕ → List Event → ℕ
signals_done name [] = 0
signals_done name (events.Ended s j replies.Done ∷ past) = if is_signal_of name (under_way s past) then signals_done name past + 1 else signals_done name past
signals_done name (other ∷ past) = signals_done name past

-- ---- rows

abbrev pub rows_of_reply : Reply → ℕ
rows_of_reply (replies.Rows rows) = length rows
rows_of_reply other = 0

-- the rows of the first tables
abbrev pub rows_below : ℕ → Database → ℕ
rows_below zero db = 0
rows_below (suc table) db = rows_below table db + length (rows_of table db)

-- the rows of all tables
abbrev pub rows_in : Database → ℕ
rows_in db = rows_below (length db.schemas) db

abbrev pub rows_of_entry : Event → ℕ
rows_of_entry (events.Opened db) = rows_in db
rows_of_entry (events.Changed s (changes.Put table row)) = 1
rows_of_entry (events.Ended s j reply) = rows_of_reply reply
rows_of_entry other = 0

-- how many rows the history holds: those of the opening, those that were put, and those of replies
abbrev pub rows_kept : List Event → ℕ
rows_kept past = sum_by rows_of_entry past

-- a count that stands still at its type's end
abbrev pub capped : ℕ → ℕ
capped n = min n (2 ^ 64 - 1)

-- how many rows a history may hold
abbrev pub most_rows : ℕ
most_rows = 1000000
