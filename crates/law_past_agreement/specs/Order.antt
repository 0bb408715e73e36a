-- When an entry may come, as far as sessions, transactions and tables order entries: whatever the statements say.
use Rattle.std.specs.Prelude.{◌≡◌, ℕ, ◌+◌, ◌<◌, List, [], ◌∷◌, ◌++◌, length, Bool, true, false, None, Some}
use Rattle.inno_types.specs.{declared.value.Schema.Schema, declared.reply.Item.Item}
use Rattle.inno_db.specs.{declared.change.Change.Change, declared.change.Change.TheVariants.Create, declared.change.Change.TheVariants.Put}
use Rattle.inno_db.specs.{declared.change.Change.TheVariants.Remove}
use Rattle.inno_model.specs.declared.event.Event.{Event}
use Rattle.inno_model.specs.declared.event.Event.TheVariants as events
use Rattle.inno_model.specs.Past.{is_of, started, under_way, of_item, begins, own, IsOpen, IsClosed, awaits_ack}

-- the tables that have been made, by number
abbrev pub created : List Event → List Schema
created [] = []
created (events.Opened db ∷ past) = db.schemas
created (events.Changed s (Create schema) ∷ past) = created past ++ schema ∷ []
created (other ∷ past) = created past

-- a change of a row
abbrev pub IsOfRow : Change → Type 0
IsOfRow (Create schema) = ⊥
IsOfRow other = Unit {0}

-- the change makes a table
abbrev pub is_creation : Change → Bool
is_creation (Create schema) = true
is_creation other = false

-- a change of a row is one of these so many tables
abbrev pub IsTabled : ℕ → Change → Type 0
IsTabled tables (Create schema) = Unit {0}
IsTabled tables (Put table row) = table < tables
IsTabled tables (Remove table key) = table < tables

-- the newest change is one of a row, and so many come before it
abbrev pub IsUndoable : ℕ → List Change → Type 0
IsUndoable keep [] = ⊥
IsUndoable keep (change ∷ before) = IsOfRow change × (length before ≡ keep)

-- an entry of this session, or a signal, which is no session's
abbrev pub IsNoOthers : ℕ → Event → Type 0
IsNoOthers t (events.Signal name) = Unit {0}
IsNoOthers t e = is_of t e ≡ true

abbrev pub MayCome : List Event → Event → Type 0
MayCome past (events.Opened db) = past ≡ []
MayCome past (events.Started s j item) = (under_way s past ≡ None) × (j ≡ started s past + 1)
MayCome past (events.Begin s n level) = (n ≡ begins past + 1) × IsClosed s past
MayCome past (events.View s) = IsOpen s past
MayCome past (events.Changed s change) = IsOpen s past × IsTabled (length (created past)) change
MayCome past (events.Undone s keep) = IsOpen s past × IsUndoable keep (own s past)
MayCome past (events.Committed s) = IsOpen s past
MayCome past (events.Acked s moment) = (awaits_ack (of_item s past) ≡ true) × IsClosed s past
MayCome past (events.RolledBack s) = IsOpen s past × (own s past ≡ [])
MayCome past (events.Ended s j reply) = (item : Item) × (under_way s past ≡ Some item) × (j ≡ started s past)
MayCome past (events.Waits s lock blockers at) = IsOpen s past
MayCome past (events.Victim s cycle) = IsOpen s past
MayCome past (events.Signal name) = Unit {0}
-- an engine that has stopped keeps no store
MayCome past (events.Stopped cause) = ⊥

-- each entry could come when it came
abbrev pub IsOrdered : List Event → Type 0
IsOrdered [] = Unit {0}
IsOrdered (e ∷ past) = MayCome past e × IsOrdered past
