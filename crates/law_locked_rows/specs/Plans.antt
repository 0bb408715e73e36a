-- What a session keeps of a search that is over.
-- `Ending` gives it and proofs/Plans.antt keeps it. `law_locked_work` has the same of stores of searches and locks alone.
use Rattle.std.specs.Prelude.{◌≡◌, ◌≢◌, ◌⊎◌, ◌≤◌, ℕ, false, List, length, Some, slice_get}
use Rattle.std.specs.Ordering.{is_lt}
use Rattle.std.specs.List.Sorted.{IsPermutation, IsSortedBy}
use Rattle.inno_types.specs.{declared.lock.Lock.Lock, declared.value.Schema.Schema}
use Rattle.store_api.specs.declared.answers.Undo.{Undo}
use Rattle.entries.specs.Pairs.{key_cmp}
use Rattle.row_search.specs.declared.found.FoundRow.{FoundRow}
use Rattle.sql_plan.specs.declared.choice.Plan.{Plan}
use Rattle.world.specs.State.{WorldState}
use Rattle.law_locked_rows.specs.Locking.{KeepsTo}

-- The transaction has searched the table by the plan when its log had so many records: each key of the range is guarded, and of each row that
-- the session sees there the record is locked.
pub record KeepsPlan (s txn table : ℕ) (plan : Plan) (made : ℕ) (log : List Undo) (state : WorldState) (granted : List Lock) : Type 0 where
  pub schema : Schema
  pub there : slice_get state.schemas table ≡ Some schema
  pub which : plan.which ≤ length schema.keys
  pub keeps : KeepsTo schema table plan.which plan.range s txn made log (λ key. false) state granted

-- the rows in the order of their keys: as they were found in the clustered index, and sorted else
abbrev pub AreInOrder : ℕ → List FoundRow → List FoundRow → Type 0
AreInOrder which found rows =
    ((which ≡ 0) × (rows ≡ found))
    ⊎ ((which ≢ 0) × IsPermutation found rows × IsSortedBy (λ (a b : FoundRow). is_lt (key_cmp a.key b.key)) rows)
