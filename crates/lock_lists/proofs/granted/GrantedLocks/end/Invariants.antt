use Rattle.std.proofs.Common.{◌≡◌, ◌≤◌, ℕ, length, get_or}
use Rattle.std.specs.Prelude.{◌==◌, not, filter, None, false}
use Rattle.lock_lists.specs.Places.{locks_of, holds_at, is_of}
use Rattle.lock_lists.proofs.granted.GrantedLocks.end.Given as goal

-- the transaction has no lock behind the limit, and the others have theirs
abbrev pub invariant-loop-place : goal.invariant-loop-place
invariant-loop-place l = record {
  within : l.limit ≤ length l.self.places;
  behind : (i : ℕ) → l.limit ≤ i → holds_at (is_of l.txn) (get_or l.self.places i None) ≡ false;
  others : filter (λ lock. not (lock.txn == l.txn)) (locks_of l.self.places) ≡ filter (λ lock. not (lock.txn == l.txn)) (locks_of l.initial.self.places);
  stays : l.self.room ≡ l.initial.self.room;
}

abbrev pub decreases-loop-place : goal.decreases-loop-place
decreases-loop-place l = l.limit
