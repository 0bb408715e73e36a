-- What is known between the steps of a taking back, stage by stage, and what each step does.
use Rattle.std.specs.Prelude.{◌≡◌, ◌≢◌, ◌⊎◌, ℕ, ◌<◌, ◌≤◌, Bool, true, false, List, length, slice_get, Some}
use Rattle.inno_types.specs.declared.value.Schema.{Schema}
use Rattle.store_api.specs.{declared.answers.Undo.Undo, declared.moves.Move.Move}
use Rattle.store_api.specs.declared.answers.Version.{Version as Coded}
use Rattle.store_api.specs.declared.moves.Move.TheVariants.{Done, Step, Latch, Again, Failed, Bad}
use Rattle.entries.specs.Pairs.{value_of}
use Rattle.row_versions.specs.{Calls.IsUnseen, declared.place.Place.Place, declared.version.Version.Version, Chains.Chains, Chains.Pops}
use Rattle.law_stored_rows.specs.{Edits.clustered_index, Edits.key_index, Records.shown, Records.LeadTo, Records.kept_of, Tables.Said}
use Rattle.world.specs.{State.WorldState, Told.IsTold, AtHand.IsAtHand}
use Rattle.row_changes.specs.{Pairs.RowsStay, Pairs.RowsStayBut, Pairs.PutsPair, Pairs.Hinders, Pairs.IsReached, Keys.ChangesItsEntry}
use Rattle.undo_apply.specs.{declared.work_room.WorkRoom.WorkRoom, declared.work_room.Stage.Stage, Rooms.IsWhole, Rooms.steps_left, Told.Rows, Told.rows_of}
use Rattle.undo_apply.specs.declared.work_room.Stage.TheVariants.{Find, Key, Walk, Mark, Remove, Unmark, Record}
use Rattle.undo_apply.specs.Standing.{TellsOf, was_before, had_row, versions_before, IsCleared, IsLagging, IsUnderWay, IsTakenBack, some_has, HasWalked}
use Rattle.store_api.specs.declared.visits.Visit.TheVariants as visit

-- the key of a stage is one of the table's
abbrev pub FitsKeys : ℕ → Undo → Stage → Type 0
FitsKeys keys undo Find = Unit {0}
FitsKeys keys undo (Key which) = which ≤ keys
FitsKeys keys undo (Walk which pointer) = which < keys
FitsKeys keys undo (Mark which) = which < keys
FitsKeys keys undo (Remove which) = which < keys
FitsKeys keys undo (Unmark which) = (which < keys) × (had_row undo ≡ true)
FitsKeys keys undo Record = Unit {0}

-- the newest row has this key's value, and an older version has it too, or none has
pub record IsFound (schema : Schema) (which : ℕ) (coded : Coded) (before : List Version) (found : Bool) : Type 0 where
  pub plain : coded.marked ≡ false
  pub found_is : some_has schema which coded before ≡ found

module _ (chains : Chains) (beside : Said) (place : Place) (undo : Undo) (schema : Schema) (rows : Rows) (bytes : List ℕ) where
  -- so many keys are done, and the next one lags
  abbrev pub LagsAt : ℕ → Coded → Type 0
  LagsAt done coded = IsUnderWay chains beside place undo schema rows bytes coded done (IsLagging (shown coded) (versions_before chains place))

  -- what is known at a stage where all is told
  abbrev pub StageHolds : Stage → Type 0
  StageHolds Find =
      ((read : List ℕ) × (coded : Coded) × IsUnderWay chains beside place undo schema rows read coded 0
      (IsLagging (shown coded) (versions_before chains place))) ⊎ IsTakenBack chains beside place undo rows
  StageHolds (Key which) = (coded : Coded) × LagsAt which coded
  StageHolds (Walk which pointer) =
      (coded : Coded) × LagsAt which coded × (coded.marked ≡ false) × HasWalked schema undo.key (kept_of rows.kept undo.table undo.key) which pointer coded
      (versions_before chains place)
  StageHolds (Mark which) = (coded : Coded) × LagsAt which coded × IsFound schema which coded (versions_before chains place) true
  StageHolds (Remove which) = (coded : Coded) × LagsAt which coded × IsFound schema which coded (versions_before chains place) false
  StageHolds (Unmark which) = (coded : Coded) × IsUnderWay chains beside place undo schema rows bytes coded which (IsCleared (versions_before chains place))
  StageHolds Record = (coded : Coded) × LagsAt (length schema.keys) coded

-- A change is being taken back, or is to be, or has been, while keys say of other places what `beside` has. Where all is told, it is
-- known how far it has come.
pub record IsPuttingBack (chains : Chains) (beside : Said) (place : Place) (undo : Undo) (room : WorkRoom) (state : WorldState) : Type 0 where
  pub schema : Schema
  pub tells : TellsOf undo schema place state.schemas
  pub whole : IsWhole room
  pub fits : FitsKeys (length schema.keys) undo room.stage
  pub holds : IsTold state → StageHolds chains beside place undo schema (rows_of state) room.newest.items room.stage

-- ---- steps

-- one entry of the row in a key of the table was changed, or none
abbrev pub ChangesOneEntry : Schema → Undo → WorldState → WorldState → Type 0
ChangesOneEntry schema undo old new =
    ChangesItsEntry schema undo.table undo.key old new

-- a walk goes on where fewer versions are left
abbrev pub WalksOn : Schema → Undo → WorldState → Stage → Stage → Type 0
WalksOn schema undo state (Walk which pointer) (Walk next behind) =
    (next ≡ which) × (IsTold state → (versions others : List Version) → LeadTo schema undo.key state.versions.kept_at pointer versions → LeadTo schema
    undo.key state.versions.kept_at behind others → length others < length versions)
WalksOn schema undo state stage other = ⊥

-- fewer steps are left, or fewer versions of a walk
abbrev pub Nears : Schema → Undo → WorldState → Stage → Stage → Type 0
Nears schema undo state stage next = (steps_left (length schema.keys) next < steps_left (length schema.keys) stage) ⊎ WalksOn schema undo state stage next

pub record GoesOn (chains : Chains) (beside : Said) (place : Place) (undo : Undo) (room next : WorkRoom) (old new : WorldState) : Type 0 where
  pub changes : (schema : Schema) → slice_get new.schemas undo.table ≡ Some schema → ChangesOneEntry schema undo old new
  pub holds : IsPuttingBack chains beside place undo next new
  pub nears : (schema : Schema) → slice_get new.schemas undo.table ≡ Some schema → Nears schema undo new room.stage next.stage

-- the index that a stage calls
abbrev pub index_at : Undo → Stage → ℕ
index_at undo (Mark which) = key_index undo.table which
index_at undo (Remove which) = key_index undo.table which
index_at undo (Unmark which) = key_index undo.table which
index_at undo other = clustered_index undo.table

-- Why a call of an index has not done what it was asked. Want of memory or pages, and pairs that are missing against what
-- is known, come only where not all is told.
abbrev pub Stops : ℕ → ℕ → WorldState → WorldState → Move → Type 0
Stops actor index old new Step = Hinders actor (old.indexes index) (new.indexes index) Step
Stops actor index old new (Latch by) = Hinders actor (old.indexes index) (new.indexes index) (Latch by)
Stops actor index old new Again = Hinders actor (old.indexes index) (new.indexes index) Again
Stops actor index old new Failed = Hinders actor (old.indexes index) (new.indexes index) Failed
Stops actor index old new (Bad page rule) = Hinders actor (old.indexes index) (new.indexes index) (Bad page rule)
Stops actor index old new other = IsTold old → ⊥

-- Why an older version was not read.
abbrev pub StopsWalk : WorldState → WorldState → Move → Type 0
StopsWalk old new Failed = IsUnseen old.versions new.versions visit.Failed
StopsWalk old new Again = IsUnseen old.versions new.versions visit.Again
StopsWalk old new (Bad page rule) = IsUnseen old.versions new.versions (visit.Bad page rule)
StopsWalk old new other = IsTold old → ⊥

-- The same of a call that came behind others of its step, which have changed no pair. The actor has left the index behind it.
pub record StopsBehind (actor index : ℕ) (old new : WorldState) (why : Move) : Type 0 where
  pub mid : WorldState
  pub after : WorldState
  pub reached : IsReached actor (old.indexes index) (mid.indexes index)
  pub at_hand : IsAtHand mid × IsAtHand after
  pub cause : Stops actor index mid after why

-- why one of the two calls of a removal has not done what it was asked
abbrev pub StopsRemoval : ℕ → ℕ → WorldState → WorldState → Move → Type 0
StopsRemoval actor index old new why = Stops actor index old new why ⊎ StopsBehind actor index old new why

abbrev pub StopsAt : ℕ → Undo → Stage → WorldState → WorldState → Move → Type 0
StopsAt actor undo (Walk which pointer) old new why = StopsWalk old new why
StopsAt actor undo (Remove which) old new why = StopsRemoval actor (key_index undo.table which) old new why
StopsAt actor undo Record old new why = StopsRemoval actor (clustered_index undo.table) old new why
StopsAt actor undo stage old new why = Stops actor (index_at undo stage) old new why

-- The call that came next was not done: the stage is the same, and so are all pairs. The step begins anew, and nobody stays awaited.
pub record IsHindered (chains : Chains) (beside : Said) (place : Place) (actor : ℕ) (undo : Undo) (room next : WorkRoom) (old new : WorldState)
    (why : Move) : Type 0 where
  pub stays : RowsStayBut actor old new
  pub stage_is : next.stage ≡ room.stage
  pub holds : IsPuttingBack chains beside place undo next new
  pub cause : StopsAt actor undo room.stage old new why

-- the record is put back or removed, or nothing has changed
abbrev pub ChangesRecord : Undo → WorldState → WorldState → Type 0
ChangesRecord undo old new = RowsStay old new ⊎ PutsPair (clustered_index undo.table) undo.key (was_before undo) old new

-- The change is taken back: the newest version of its place is gone, and what keys say of other places is what they said. One that
-- had been taken back already is left as it is.
pub record IsDone (chains : Chains) (beside : Said) (place : Place) (undo : Undo) (room next : WorkRoom) (old new : WorldState) : Type 0 where
  pub changes : ChangesRecord undo old new
  pub whole : IsWhole next
  pub anew : next.stage ≡ Find
  pub popped : IsTold new → value_of undo.key ((rows_of old).pairs (clustered_index undo.table)) ≢ was_before undo
      → (after : Chains) → Pops chains after place → IsTakenBack after beside place undo (rows_of new)
  pub again : IsTold new → value_of undo.key ((rows_of old).pairs (clustered_index undo.table)) ≡ was_before undo
      → RowsStay old new × IsTakenBack chains beside place undo (rows_of new)

abbrev pub PutsBack : Chains → Said → Place → ℕ → Undo → WorkRoom → WorkRoom → WorldState → WorldState → Move → Type 0
PutsBack chains beside place actor undo room next old new Done = IsDone chains beside place undo room next old new
PutsBack chains beside place actor undo room next old new Step =
    GoesOn chains beside place undo room next old new ⊎ IsHindered chains beside place actor undo room next old new Step
PutsBack chains beside place actor undo room next old new why = IsHindered chains beside place actor undo room next old new why
