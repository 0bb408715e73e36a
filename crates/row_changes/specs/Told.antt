-- When a world's indexes and versions are certain rows, of all places or with one place apart.
use Rattle.std.specs.Prelude.{◌≡◌, ℕ, List, Some, slice_get}
use Rattle.inno_types.specs.{declared.value.Value.Value, declared.value.Schema.Schema}
use Rattle.row_versions.specs.{declared.place.Place.Place, Chains.Chains, Chains.versions_at}
use Rattle.law_stored_rows.specs.Tables.{Said, AreCodedAs, AreCoded, SayTheSameBut}
use Rattle.row_changes.specs.Edits.{IsKeyAt}
use Rattle.world.specs.{State.WorldState, Told.IsTold, Told.pairs_of}

-- the indexes, and the versions behind roll pointers, are these rows, of which the keys say this
abbrev pub AreRowsAs : Chains → Said → WorldState → Type 0
AreRowsAs chains said state = AreCodedAs state.schemas (pairs_of state) state.versions.kept_at chains said

-- Where they are told, the indexes and the versions behind roll pointers are these rows.
abbrev pub HasRows : Chains → WorldState → Type 0
HasRows chains state = IsTold state → AreCoded state.schemas (pairs_of state) state.versions.kept_at chains

-- The keys say of this place what is there.
abbrev pub SaysAt : Place → Chains → Said → Type 0
SaysAt place chains said = (which : ℕ) → said place.table which place.key ≡ versions_at place chains

-- Where they are told, the indexes and the versions behind roll pointers are these rows. Of this place the keys say what is
-- there, and of all others what is said beside it.
abbrev pub HasRowsBeside : Chains → Said → Place → WorldState → Type 0
HasRowsBeside chains beside place state =
    IsTold state → (said : Said) × AreRowsAs chains said state × SayTheSameBut place beside said × SaysAt place chains said

-- The same of the place whose record in this table has this key.
abbrev pub HasRowsAt : Chains → Said → ℕ → List ℕ → WorldState → Type 0
HasRowsAt chains beside table key state =
    (schema : Schema) (value : Value) → slice_get state.schemas table ≡ Some schema → IsKeyAt schema value key
    → HasRowsBeside chains beside (record { table = table; key = value }) state
