use Rattle.std.proofs.Common.{arith, [], ◌++◌}
use Rattle.std.specs.Prelude.{◌==◌, not, length}
use Rattle.lock_rules.specs.Spots.{same_spot}
use Rattle.lock_table.specs.Queue.{serve, without, without_lock}
use Rattle.lock_table.specs.Records.{moved, left_by, uncovered, elsewhere, after_removal, after_end}
use Rattle.deadlock.proofs.Rooms.{rooms_fewer}
use Rattle.law_locks.proofs.Parts.{served_fewer, filter_upto}
use Rattle.law_locks.proofs.rooms.rooms_last_through_other_calls.Goals as goal

pub returns : goal.returns
returns c = record {
  withdrawn = λ txn granted waiting rooms has.
      rooms_fewer (length (serve granted [] (without txn waiting)).waiting) (length waiting) rooms
      (omega (arith, served_fewer granted [] (without txn waiting), filter_upto (λ lock. not (lock.txn == txn)) waiting)) has;
  ended = λ txn granted waiting rooms has.
      rooms_fewer (length (after_end txn granted waiting).waiting) (length waiting) rooms
      (omega (arith, served_fewer (without txn granted) [] (without txn waiting), filter_upto (λ lock. not (lock.txn == txn)) waiting)) has;
  released = λ gone granted waiting rooms has.
      rooms_fewer (length (serve (without_lock gone granted) [] waiting).waiting) (length waiting) rooms
      (omega (arith, served_fewer (without_lock gone granted) [] waiting)) has;
  removed = λ by gone next granted waiting rooms has.
      rooms_fewer (length (after_removal by gone next granted waiting).waiting) (length waiting) rooms
      (omega (
        arith,
        served_fewer (moved by gone next granted ++ uncovered (moved by gone next granted) (left_by by gone next waiting)) [] (elsewhere gone waiting),
        filter_upto
            (λ asked. not (same_spot asked.spot gone)) waiting,
      )) has;
}
