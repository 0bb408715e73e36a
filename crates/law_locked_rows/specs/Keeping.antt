-- What the steps of other sessions leave to a search that locks.
-- A search asks no more of others' steps. proofs/Committing.antt and proofs/Calls.antt show it of each.
use Rattle.std.specs.Prelude.{◌≡◌, ◌⊎◌, ℕ, Bool, true, false, List, Option, None, Some}
use Rattle.inno_types.specs.{declared.lock.Lock.Lock, declared.value.Value.Value}
use Rattle.inno_db.specs.Indexes.{index_of}
use Rattle.store_api.specs.declared.answers.Undo.{Undo}
use Rattle.law_stored_rows.specs.Edits.{clustered_index}
use Rattle.world.specs.State.{WorldState}
use Rattle.law_locks.specs.Guards.{Guarded, has_record}
use Rattle.row_search.specs.declared.scan.Scan.{Scan}
use Rattle.law_locked_rows.specs.Locking.{records_in}

-- the transaction keeps what it guards in the index that is searched, and the records that it has locked in the clustered one
pub record LeavesGuards (scan : Scan) (txn made : ℕ) (log : List Undo) (old new : WorldState) (granted now : List Lock) : Type 0 where
  pub guards : (key : List ℕ) → Guarded txn (index_of scan.table scan.which) (records_in old (index_of scan.table scan.which)) granted key made log
      → Guarded txn (index_of scan.table scan.which) (records_in new (index_of scan.table scan.which)) now key made log
  pub records : (key : List ℕ) → has_record txn (clustered_index scan.table) key granted ≡ true → has_record txn (clustered_index scan.table) key now ≡ true

-- there is no row, or it doesn't pass
abbrev pub Fails : (List Value → Bool) → Option (List Value) → Type 0
Fails passes None = Unit {0}
Fails passes (Some row) = passes row ≡ false

-- Each row is as it was, or passes neither before nor now.
abbrev pub StayOrFail : (List Value → Bool) → (Value → Option (List Value)) → (Value → Option (List Value)) → Type 0
StayOrFail passes old new = (value : Value) → (new value ≡ old value) ⊎ (Fails passes (old value) × Fails passes (new value))
