use Rattle.law_locks.proofs.Guarding as lemmas
use Rattle.law_locks.proofs.GivenBack.{given_back_at_once}
use Rattle.law_locks.proofs.guards.new_locks_given_back_keep_guards.Goals as goal

pub returns : goal.returns
returns c = record {
  guards = λ txn index records key old new lock free is was. lemmas.guards_kept txn index records key old.granted _
      (given_back_at_once lock old new free is txn index) was;
  guarded = λ txn index records key made log old new lock free is was. lemmas.guarded_kept txn index records key made log old.granted _
      (given_back_at_once lock old new free is txn index) was;
  alone = λ txn index key old new lock free is has. (given_back_at_once lock old new free is txn index).alone key has;
}
