-- Who of a cycle is rolled back.
use Rattle.std.specs.Prelude.{◌≡◌, ◌≢◌, ℕ, ◌≤◌, ◌==◌, if◌then◌else◌, Option, Some, List, [], ◌∷◌, All, Contains}
use Rattle.inno_types.specs.declared.lock.Edge.{Edge}
use Rattle.deadlock.specs.Cycles.{waiters}
use Rattle.deadlock.specs.declared.rollback.Size.{Size}

-- how many row changes of a transaction stand: none where it isn't listed
abbrev pub changes_of : ℕ → List Size → ℕ
changes_of txn [] = 0
changes_of txn (size ∷ sizes) = if size.txn == txn then size.changes else changes_of txn sizes

-- one goes rather than another: it has fewer changes; among equals the asker goes, else the one begun last
pub record GoesBefore (sizes : List Size) (asked : Option ℕ) (txn other : ℕ) : Type 0 where
  pub fewest : changes_of txn sizes ≤ changes_of other sizes
  pub asker : changes_of txn sizes ≡ changes_of other sizes → asked ≡ Some other → txn ≡ other
  pub latest : changes_of txn sizes ≡ changes_of other sizes → asked ≢ Some txn → other ≤ txn

-- the transaction of the cycle that goes before all of them
pub record IsVictim (cycle : List Edge) (sizes : List Size) (asked : Option ℕ) (txn : ℕ) : Type 0 where
  pub in_cycle : Contains (waiters cycle) txn
  pub before_others : All (GoesBefore sizes asked txn) (waiters cycle)
