use Rattle.std.proofs.Common.{refl}
use Rattle.law_locks.proofs.AtOnce as lemmas
use Rattle.law_locks.proofs.InsertionSpots.{at_once, same_with, guards_again, guarded_again}
use Rattle.law_locks.specs.Index.{keys_of, spot_at, next_spot}
use Rattle.law_locks.proofs.index.pairs_that_are_put_keep_guards.Goals as goal

pub returns : goal.returns
returns c = record {
  guards = λ txn other index pairs key value guarded intention own old last is was.
      guards_again (same_with key value pairs) other index last.granted guarded
      (lemmas.guards_then txn (keys_of pairs) key (spot_at index key) (next_spot index key pairs) intention own old last (at_once is) other guarded was);
  guarded = λ txn other index pairs key value guarded intention own old last made log is was.
      guarded_again (same_with key value pairs) other index last.granted guarded made log
      (lemmas.guarded_then txn (keys_of pairs) key (spot_at index key) (next_spot index key pairs) intention own old last
      (at_once is) other guarded made log was);
  nobody = λ txn other index pairs key intention own old last differ is was.
      lemmas.nobody_guards txn (keys_of pairs) key (spot_at index key) (next_spot index key pairs) intention own old last (at_once is) other differ was;
  alone = λ txn index pairs key intention own old last is.
      lemmas.takes_alone txn key (spot_at index key) (next_spot index key pairs) own is.asked last is.takes refl;
}
