-- Whom a step of a change leaves awaited at indexes: nobody who wasn't awaited before. Within a step a call may await the next one.
use Rattle.std.specs.Prelude.{◌≡◌, ℕ, ◌≤◌, List, length, slice_get, Some}
use Rattle.inno_types.specs.declared.value.Schema.{Schema}
use Rattle.world.specs.State.{WorldState}
use Rattle.inno_db.specs.Indexes.{index_of}

-- Who is awaited anywhere was so before.
pub record AwaitsNoMore (old new : WorldState) : Type 0 where
  pub each : (index by : ℕ) → (new.indexes index).awaited ≡ Some by → (old.indexes index).awaited ≡ Some by

-- nobody is awaited anywhere
abbrev pub AwaitsNobody : WorldState → Type 0
AwaitsNobody state = (index by : ℕ) → (state.indexes index).awaited ≡ Some by → ⊥

-- the number of an index of this table
pub record IsOfTable (table : ℕ) (schemas : List Schema) (index : ℕ) : Type 0 where
  pub schema : Schema
  pub there : slice_get schemas table ≡ Some schema
  pub which : ℕ
  pub within : which ≤ length schema.keys
  pub number : index ≡ index_of table which
