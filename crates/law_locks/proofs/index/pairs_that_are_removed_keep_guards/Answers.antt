use Rattle.law_locks.proofs.Guarding.{removed_guards}
use Rattle.law_locks.proofs.Pinning as pinning
use Rattle.law_locks.proofs.InsertionSpots.{removes, same_without, guards_again, guarded_again}
use Rattle.law_locks.specs.Index.{keys_of, spot_at, next_spot}
use Rattle.law_locks.proofs.index.pairs_that_are_removed_keep_guards.Goals as goal

pub returns : goal.returns
returns c = record {
  guards = λ other index by pairs key guarded granted waiting stands fit was.
      guards_again (same_without key pairs stands.rising) other index _ guarded
      (removed_guards other by (keys_of pairs) key guarded (spot_at index key) (next_spot index key pairs) granted waiting
      (removes key pairs stands.rising index stands.there) fit was);
  guarded = λ other txn index pairs key guarded granted waiting made log differ apart alone stands fit was.
      guarded_again (same_without key pairs stands.rising) other index _ guarded made log
      (pinning.removed_by_other other txn (keys_of pairs) key guarded (spot_at index key) (next_spot index key pairs) granted waiting
      (removes key pairs stands.rising index stands.there) fit made log differ apart alone was);
}
