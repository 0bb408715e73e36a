-- What the calls of indexes change of a store.
use Rattle.std.specs.Prelude.{◌≡◌, ◌≢◌, ℕ, ◌≤◌, ◌==◌, Bool, true, Option, None, Some}
use Rattle.store_api.specs.declared.answers.Undo.{Undo}
use Rattle.store_api.specs.declared.moves.Move.{Move}
use Rattle.entries.specs.Pairs.{AreSound}
use Rattle.entries.specs.Index.{Index, Told, IsAsBefore, GoesOn}
use Rattle.entries.specs.Calls.{is_done}
use Rattle.row_versions.specs.Versions.{Stays}
use Rattle.world.specs.Indexes.{IsUndo, undo_bytes, KeepsIf}
use Rattle.world.specs.Stores.{StoreGoes, CountsFree}
use Rattle.index_store.specs.State.{StoreState}

-- One index has gone on by a step; the others are as they were.
pub record InIndex (index : ℕ) (step : Index → Index → Type 0) (old new : StoreState) : Type 0 where
  pub here : step (old.indexes index) (new.indexes index)
  pub elsewhere : (other : ℕ) → other ≢ index → IsAsBefore (old.indexes other) (new.indexes other)
  pub sound : Told AreSound (new.indexes index)
  pub later : GoesOn (old.indexes index).paged (new.indexes index).paged

-- no undo record comes, and all but indexes is as it was
pub record StaysBeside (old new : StoreState) : Type 0 where
  pub schemas : new.schemas ≡ old.schemas
  pub versions : Stays old.versions new.versions
  pub rooms : new.rooms ≡ old.rooms
  pub later : StoreGoes old.paged new.paged

-- A call of an index that brings no undo record.
pub record Calls (index : ℕ) (call : Index → Index → Type 0) (old new : StoreState) : Type 0 where
  pub index_is : InIndex index call old new
  pub beside : StaysBeside old new

-- ---- undo records

-- the session's next undo record has room for this one
pub record MayLog (s : ℕ) (undo : Undo) (store : StoreState) : Type 0 where
  pub sound : IsUndo store.schemas undo
  pub room : undo_bytes undo ≤ (store.rooms s).bytes

-- a change with this undo record, or with none, may be made
abbrev pub MayBring : ℕ → Option Undo → StoreState → Type 0
MayBring s None store = Unit {0}
MayBring s (Some undo) store = MayLog s undo store

-- The session's undo record has come, behind the pointer that it was to have. Others' rooms are as they were.
pub record IsLogged (s : ℕ) (undo : Undo) (old new : StoreState) : Type 0 where
  pub schemas : new.schemas ≡ old.schemas
  pub kept : KeepsIf (undo.kind == 2) old.schemas (old.rooms s).pointer undo old.versions new.versions
  pub others : (other : ℕ) → other ≢ s → new.rooms other ≡ old.rooms other
  pub later : StoreGoes old.paged new.paged

-- what comes beside the change of an index that has been made, or not
abbrev pub Brings : ℕ → Option Undo → Bool → StoreState → StoreState → Type 0
Brings s (Some undo) true old new = IsLogged s undo old new
Brings s undo done old new = StaysBeside old new

-- A call that changes an index, with an undo record or without.
pub record Changes (index s : ℕ) (undo : Option Undo) (call : Index → Index → Move → Type 0) (old new : StoreState) (answer : Move) : Type 0 where
  pub index_is : InIndex index (λ before after. call before after answer) old new
  pub beside : Brings s undo (is_done answer) old new
  pub counted : CountsFree answer old.paged
