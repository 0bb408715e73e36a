-- What the calls of versions, of undo records and of tables answer, and what they change of a store.
use Rattle.std.specs.Prelude.{◌≡◌, ◌≢◌, ℕ, ◌<◌, true, IsTrue, [], ◌∷◌, ◌++◌, length, None}
use Rattle.inno_types.specs.declared.value.Schema.{Schema}
use Rattle.inno_types.specs.Order.{IsBelow}
use Rattle.inno_db.specs.Indexes.{index_of}
use Rattle.store_api.specs.Causes.{Rose}
use Rattle.store_api.specs.declared.moves.Move.{Move}
use Rattle.store_api.specs.declared.moves.Move.TheVariants.{Done, Step, Latch, Again, Full, Failed, Bad, NoMemory}
use Rattle.entries.specs.Index.{IsAsBefore, InPages}
use Rattle.entries.specs.Lists.{empty_index}
use Rattle.world.specs.Stores.{Pages, StoreGoes}
use Rattle.index_store.specs.State.{StoreState}
use Rattle.index_store.specs.Indexes.{StaysBeside}

-- Nothing has changed but what is known of pages.
pub record IsUnchanged (old new : StoreState) : Type 0 where
  pub indexes : (index : ℕ) → IsAsBefore (old.indexes index) (new.indexes index)
  pub beside : StaysBeside old new

-- The call has not ended, by a cause that only a store in pages has.
pub record IsPutOff (why : Pages → Pages → Type 0) (old new : StoreState) : Type 0 where
  pub all : IsUnchanged old new
  pub cause : InPages why old.paged new.paged

abbrev pub Delays : ℕ → StoreState → StoreState → Move → Type 0
Delays s old new Step = IsPutOff (λ before now. IsBelow (now.to_go s) (before.to_go s)) old new
Delays s old new (Latch by) = IsPutOff (λ before now. (by ≢ s) × (before.stops by s ≡ true)) old new
Delays s old new Again = IsPutOff (λ before now. before.is_crowded ≡ true) old new
Delays s old new Failed = IsPutOff (λ before now. Rose before.faults now.faults) old new
Delays s old new (Bad page rule) = IsPutOff (λ before now. before.breaks page rule ≡ true) old new
Delays s old new other = ⊥

-- all but the room of a session is as it was
pub record InRoom (s : ℕ) (old new : StoreState) : Type 0 where
  pub schemas : new.schemas ≡ old.schemas
  pub indexes : new.indexes ≡ old.indexes
  pub versions : new.versions ≡ old.versions
  pub others : (other : ℕ) → other ≢ s → new.rooms other ≡ old.rooms other
  pub later : StoreGoes old.paged new.paged

-- the session's next undo record has room for so many bytes
pub record IsReady (s bytes : ℕ) (old new : StoreState) : Type 0 where
  pub bytes_are : (new.rooms s).bytes ≡ bytes
  pub leads : (new.rooms s).pointer ≢ 0
  pub rest : InRoom s old new

abbrev pub MakesRoom : ℕ → ℕ → StoreState → StoreState → Move → Type 0
MakesRoom s bytes old new Done = IsReady s bytes old new
MakesRoom s bytes old new NoMemory = IsUnchanged old new
MakesRoom s bytes old new (Full need free) = IsPutOff (λ before now. (free ≡ before.free) × (free < need)) old new
MakesRoom s bytes old new other = Delays s old new other

-- What was kept for the pointer may be gone. What stands behind other pointers stands there still.
pub record IsCutBack (s pointer kind : ℕ) (old new : StoreState) : Type 0 where
  pub schemas : new.schemas ≡ old.schemas
  pub indexes : new.indexes ≡ old.indexes
  pub told : IsTrue new.versions.told → IsTrue old.versions.told
  pub kept : (other : ℕ) → other ≢ pointer → IsTrue new.versions.told → new.versions.kept_at other ≡ old.versions.kept_at other
  -- a record of kind 1 keeps no version
  pub behind_new : kind ≡ 1 → IsTrue new.versions.told → new.versions.kept_at pointer ≡ old.versions.kept_at pointer
  pub others : (other : ℕ) → other ≢ s → new.rooms other ≡ old.rooms other
  pub later : StoreGoes old.paged new.paged

abbrev pub CutsBack : ℕ → ℕ → ℕ → ℕ → StoreState → StoreState → Move → Type 0
CutsBack actor s pointer kind old new Done = IsCutBack s pointer kind old new
CutsBack actor s pointer kind old new other = Delays actor old new other

-- A transaction has ended. What is kept of its undo records is not seen, and rooms that were made stay.
pub record HasEnded (old new : StoreState) : Type 0 where
  pub schemas : new.schemas ≡ old.schemas
  pub indexes : new.indexes ≡ old.indexes
  pub versions : new.versions ≡ old.versions
  pub rooms : new.rooms ≡ old.rooms
  pub later : StoreGoes old.paged new.paged

abbrev pub Ends : ℕ → StoreState → StoreState → Move → Type 0
Ends s old new Done = HasEnded old new
Ends s old new other = Delays s old new other

-- what is kept of undo records that nobody needs is given back
abbrev pub Frees : ℕ → StoreState → StoreState → Move → Type 0
Frees s old new Done = IsUnchanged old new
Frees s old new other = Delays s old new other

-- One table more. Its indexes are empty, as they were before anybody had them.
pub record MakesTable (schema : Schema) (old new : StoreState) : Type 0 where
  pub empty : (which : ℕ) → which < 8 → new.indexes (index_of (length old.schemas) which) ≡ empty_index
  pub same : (index : ℕ) → new.indexes index ≡ old.indexes index
  pub rest : new ≡ record old { schemas = old.schemas ++ schema ∷ []; indexes = new.indexes }

-- a store without tables
pub record IsNew (store : StoreState) : Type 0 where
  pub schemas : store.schemas ≡ []
  pub indexes : (index : ℕ) → store.indexes index ≡ empty_index
  pub versions : (pointer : ℕ) → store.versions.kept_at pointer ≡ None
