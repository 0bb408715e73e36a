-- When a search that locks may go on.
use Rattle.std.specs.Prelude.{◌≡◌, ◌≢◌, ◌≤◌, ◌<◌, true, false, length, Some, slice_get}
use Rattle.inno_types.specs.declared.value.Schema.{Schema}
use Rattle.lock_rules.specs.Kinds.{is_upper}
use Rattle.lock_table.specs.Queue.{is_waiting}
use Rattle.secondary.specs.Entries.{HasSecondary}
use Rattle.world.specs.State.{WorldState, Session, Work, HasWork}
use Rattle.row_search.specs.declared.scan.Scan.{Scan}
use Rattle.row_locking.specs.declared.search.LockingSearch.{LockingSearch}
use Rattle.row_locking.specs.declared.phase.LockingPhase.{LockingPhase}
use Rattle.row_locking.specs.declared.phase.LockingPhase.TheVariants.{Next, Row, Sort, Leave}

abbrev pub PhaseMay : Scan → LockingPhase → Type 0
PhaseMay scan Next = scan.range.empty ≡ false
PhaseMay scan (Row entry) = (scan.range.empty ≡ false) × (scan.which ≢ 0) × (length entry ≤ 67)
PhaseMay scan Sort = Unit {0}
PhaseMay scan Leave = Unit {0}

-- The search is one of an index that is there, at one of the two upper levels, for the session's open transaction, which waits for no lock.
pub record MayLock (schema : Schema) (state : WorldState) (search : LockingSearch) : Type 0 where
  pub there : slice_get state.schemas search.scan.table ≡ Some schema
  pub which : search.scan.which ≤ length schema.keys
  pub few : search.scan.which < 8
  pub keyed : search.scan.which ≢ 0 → HasSecondary schema search.scan.which
  pub upper : is_upper search.asker.level ≡ true
  pub session : Session
  pub work : Work
  pub has_work : HasWork search.asker.session session work state
  pub mine : search.asker.txn ≡ work.txn
  pub free : is_waiting work.txn state.locks.waiting ≡ false
  pub phase : PhaseMay search.scan search.phase
