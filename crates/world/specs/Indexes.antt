-- What the calls of indexes and versions change of a world.
use Rattle.std.specs.Prelude.{◌≡◌, ◌≢◌, ◌⊎◌, ℕ, ◌+◌, ◌≤◌, ◌==◌, Bool, true, false, IsTrue, List, [], ◌∷◌, length, slice_get, Option, None, Some}
use Rattle.inno_types.specs.declared.value.Schema.{Schema}
use Rattle.store_api.specs.declared.answers.Undo.{Undo}
use Rattle.store_api.specs.declared.answers.Version.{Version}
use Rattle.store_api.specs.declared.moves.Move.{Move}
use Rattle.store_api.specs.declared.moves.Move.TheVariants.{NoMemory}
use Rattle.entries.specs.Pairs.{AreSound}
use Rattle.entries.specs.Index.{Index, Told, IsAsBefore, GoesOn}
use Rattle.entries.specs.Calls.{is_done, Inserts, Replaces}
use Rattle.row_versions.specs.Versions.{Versions, Stays}
use Rattle.row_codec.specs.Rows.{IsRecordOf, IsVersion}
use Rattle.world.specs.State.{WorldState, Session, Work, HasWork, with_work}
use Rattle.world.specs.Stores.{StoreGoes, CountsFree}

-- One index has gone on by a step; the others are as they were, and so is all else.
pub record InIndex (index : ℕ) (step : Index → Index → Type 0) (old new : WorldState) : Type 0 where
  pub here : step (old.indexes index) (new.indexes index)
  pub elsewhere : (other : ℕ) → other ≢ index → IsAsBefore (old.indexes other) (new.indexes other)
  pub sound : Told AreSound (new.indexes index)
  pub later : GoesOn (old.indexes index).paged (new.indexes index).paged

-- ---- undo records

-- the version that the record keeps is one of its table, beside the bytes that are kept
pub record IsVersionKept (schemas : List Schema) (undo : Undo) (version : Version) : Type 0 where
  pub schema : Schema
  pub there : slice_get schemas undo.table ≡ Some schema
  pub record_is : IsRecordOf schema version undo.key undo.value
  pub small : IsVersion version

-- A record of kind 1 tells of a new row, one of kind 2 keeps the version that a change replaced.
abbrev pub KeepsAsSaid : List Schema → Undo → Type 0
KeepsAsSaid schemas undo = ((undo.kind ≡ 1) × (undo.value ≡ [])) ⊎ ((undo.kind ≡ 2) × (version : Version) × IsVersionKept schemas undo version)

-- an undo record's bytes beside the key and the value that it keeps
abbrev pub undo_bytes : Undo → ℕ
undo_bytes undo = 7 + length undo.key + length undo.value

pub record IsUndo (schemas : List Schema) (undo : Undo) : Type 0 where
  pub kept : KeepsAsSaid schemas undo
  pub key : length undo.key ≤ 67
  pub value : length undo.value ≤ 1024

-- the actor's log has room for the record
pub record MayLog (actor : ℕ) (undo : Undo) (state : WorldState) : Type 0 where
  pub sound : IsUndo state.schemas undo
  pub session : Session
  pub work : Work
  pub has_work : HasWork actor session work state
  pub room : undo_bytes undo ≤ session.undo_room

-- a change with this undo record, or with none, may be made
abbrev pub MayBring : ℕ → Option Undo → WorldState → Type 0
MayBring actor None state = Unit {0}
MayBring actor (Some undo) state = MayLog actor undo state

-- a version more is kept, behind this pointer: one of the undo record's row
pub record KeepsVersion (schemas : List Schema) (pointer : ℕ) (undo : Undo) (old new : Versions) : Type 0 where
  pub told : IsTrue new.told → IsTrue old.told
  pub version : Version
  pub kept : IsVersionKept schemas undo version
  pub fresh : IsTrue new.told → old.kept_at pointer ≡ None
  pub here : IsTrue new.told → new.kept_at pointer ≡ Some (record { table = undo.table; key = undo.key; version = version; bytes = undo.value })
  pub elsewhere : (other : ℕ) → other ≢ pointer → IsTrue new.told → new.kept_at other ≡ old.kept_at other

-- only a version that was replaced is kept
abbrev pub KeepsIf : Bool → List Schema → ℕ → Undo → Versions → Versions → Type 0
KeepsIf true schemas pointer undo old new = KeepsVersion schemas pointer undo old new
KeepsIf false schemas pointer undo old new = Stays old new

-- the record is the newest of the actor's log
pub record IsLogged (actor : ℕ) (undo : Undo) (old new : WorldState) : Type 0 where
  pub session : Session
  pub work : Work
  pub has_work : HasWork actor session work old
  pub next : ℕ
  pub kept : KeepsIf (undo.kind == 2) old.schemas session.next_pointer undo old.versions new.versions
  pub rest : new ≡ record (with_work actor (record session { undo_room = 0; next_pointer = next })
      (record work { log = record { pointer = session.next_pointer; undo = undo } ∷ work.log }) old)
      { indexes = new.indexes; versions = new.versions; paged = new.paged }
  pub later : StoreGoes old.paged new.paged

-- no undo record comes, and all but indexes is as it was
pub record StaysBeside (old new : WorldState) : Type 0 where
  pub versions : Stays old.versions new.versions
  pub rest : new ≡ record old { indexes = new.indexes; versions = new.versions; paged = new.paged }
  pub later : StoreGoes old.paged new.paged

-- what comes beside the change of an index that has been made, or not
abbrev pub Brings : ℕ → Option Undo → Bool → WorldState → WorldState → Type 0
Brings actor (Some undo) true old new = IsLogged actor undo old new
Brings actor undo done old new = StaysBeside old new

-- A call that changes an index, with an undo record or without.
pub record Changes (index actor : ℕ) (undo : Option Undo) (call : Index → Index → Move → Type 0) (old new : WorldState) (answer : Move) : Type 0 where
  pub index_is : InIndex index (λ before after. call before after answer) old new
  pub beside : Brings actor undo (is_done answer) old new
  pub counted : CountsFree answer old.paged

-- A call of an index that brings no undo record.
pub record Calls (index : ℕ) (call : Index → Index → Type 0) (old new : WorldState) : Type 0 where
  pub index_is : InIndex index call old new
  pub beside : StaysBeside old new

-- Memory for an undo record may be lacking, where one comes beside the change.
abbrev pub InsertsWith : Option Undo → ℕ → List ℕ → List ℕ → Index → Index → Move → Type 0
InsertsWith (Some undo) actor key value old new NoMemory = IsAsBefore old new
InsertsWith undo actor key value old new answer = Inserts actor key value old new answer

abbrev pub ReplacesWith : Option Undo → ℕ → List ℕ → List ℕ → Index → Index → Move → Type 0
ReplacesWith (Some undo) actor key value old new NoMemory = IsAsBefore old new
ReplacesWith undo actor key value old new answer = Replaces actor key value old new answer
