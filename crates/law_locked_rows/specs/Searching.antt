-- The steps of a search that locks: each asks for one lock, and it is granted.
use Rattle.std.specs.Prelude.{◌≡◌, ℕ, ◌≤◌, true, List, length, Option, Some, slice_get}
use Rattle.inno_types.specs.{declared.lock.Lock.Lock, declared.value.Schema.Schema, declared.value.Value.Value, Ranges.is_within}
use Rattle.inno_db.specs.Indexes.{index_of}
use Rattle.entries.specs.Pairs.{Pair, IsFirstOf}
use Rattle.law_stored_rows.specs.Edits.{clustered_index}
use Rattle.world.specs.{State.Session, State.Work, State.HasWork, Told.IsTold, Told.pairs_of}
use Rattle.row_changes.specs.Edits.{IsKeyAt}
use Rattle.lock_rules.specs.Kinds.{locks_gap, locks_record}
use Rattle.lock_rules.specs.Conflicts.{kind_of}
use Rattle.lock_table.specs.Queue.{AreApart}
use Rattle.lock_table.specs.View.{Table, IsGranted}
use Rattle.row_search.specs.{declared.scan.Scan.Scan, Ranges.primary_part}
use Rattle.desks.specs.Desks.{Store, doing_at, is_quiet_doing}
use Rattle.law_locked_rows.specs.Locking.{to_come}

-- A session that changes no row searches an index of a table, and a lock is granted to its transaction.
pub record LocksFor (store : Store) (old new : Table) (s : ℕ) (work : Work) (schema : Schema) (scan : Scan) (lock : Lock) : Type 0 where
  pub told : IsTold store.world
  pub session : Session
  pub has_work : HasWork s session work store.world
  pub searching : is_quiet_doing (doing_at s store.desks) ≡ true
  pub there : slice_get store.world.schemas scan.table ≡ Some schema
  pub which : scan.which ≤ length schema.keys
  pub granted : IsGranted old new lock
  pub apart : AreApart new.granted
  pub mine : lock.txn ≡ work.txn

-- the lock is one of the next pair's record and of the gap before it, in the range
pub record LocksNext (store : Store) (scan : Scan) (lock : Lock) (passed : Option (List ℕ)) (pair : Pair) : Type 0 where
  pub first : IsFirstOf (to_come scan passed) (pairs_of store.world (index_of scan.table scan.which)) pair
  pub within : is_within scan.range pair.0 ≡ true
  pub index : lock.spot.index ≡ index_of scan.table scan.which
  pub key : lock.spot.key ≡ Some pair.0
  pub gap : locks_gap (kind_of lock) ≡ true
  pub own : locks_record (kind_of lock) ≡ true

-- the lock is one of the clustered record to which the entry belongs
pub record LocksRecordOf (schema : Schema) (scan : Scan) (lock : Lock) (entry : List ℕ) : Type 0 where
  pub value : Value
  pub key_is : IsKeyAt schema value (primary_part schema entry)
  pub whole : scan.which ≡ 0 → primary_part schema entry ≡ entry
  pub index : lock.spot.index ≡ clustered_index scan.table
  pub key : lock.spot.key ≡ Some (primary_part schema entry)
  pub own : locks_record (kind_of lock) ≡ true
