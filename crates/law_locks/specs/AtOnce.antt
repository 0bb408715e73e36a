-- An insertion with its locks, as one step of a lock table.
-- An index of rows goes with it (specs/Index.antt); `taking` makes the call for whoever inserts.
use Rattle.std.specs.Prelude.{◌≡◌, ℕ, List, ◌++◌}
use Rattle.inno_types.specs.declared.lock.LockKind.TheVariants.{Rec, Intent}
use Rattle.inno_types.specs.declared.lock.Mode.TheVariants.{X}
use Rattle.inno_types.specs.declared.lock.Spot.{Spot}
use Rattle.inno_types.specs.declared.lock.Lock.{Lock}
use Rattle.lock_table.specs.Coverage.{IsInsertion}
use Rattle.lock_table.specs.Records.{copies}
use Rattle.lock_table.specs.View.{Table, IsGranted}

-- the transaction's intention to insert before the next spot
pub record IsIntention (txn : ℕ) (next : Spot) (lock : Lock) : Type 0 where
  pub own : lock.txn ≡ txn
  pub kind : lock.kind ≡ Intent
  pub spot : lock.spot ≡ next

-- its lock of the record, for itself alone
pub record IsAlone (txn : ℕ) (new : Spot) (lock : Lock) : Type 0 where
  pub own : lock.txn ≡ txn
  pub kind : lock.kind ≡ Rec
  pub mode : lock.mode ≡ X
  pub spot : lock.spot ≡ new

-- The record of a new key comes before the next spot: its locks of the gap there are copied, and it has the record alone.
pub record TakesNew (txn : ℕ) (key : List ℕ) (new next : Spot) (own : Lock) (old last : Table) : Type 0 where
  pub own_is : IsAlone txn new own
  pub copied : Table
  pub granted_is : copied.granted ≡ old.granted ++ copies txn new next old.granted
  pub waiting_is : copied.waiting ≡ old.waiting
  pub has : IsGranted copied last own

-- The same in the step in which the transaction's intention is asked for and granted.
pub record InsertsAtOnce (txn : ℕ) (records : List (List ℕ)) (key : List ℕ) (new next : Spot) (intention own : Lock) (old last : Table) : Type 0 where
  pub insertion : IsInsertion records key new next
  pub intention_is : IsIntention txn next intention
  pub asked : Table
  pub granted : IsGranted old asked intention
  pub takes : TakesNew txn key new next own asked last
