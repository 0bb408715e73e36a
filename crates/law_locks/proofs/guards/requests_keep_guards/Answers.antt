use Rattle.law_locks.proofs.Guarding as lemmas
use Rattle.law_locks.proofs.guards.requests_keep_guards.Goals as goal

pub returns : goal.returns
returns c = record {
  guards = λ txn index records key old new lock answer is was. lemmas.guards_kept txn index records key old.granted new.granted
      (lemmas.answered_locks txn index old new lock answer is) was;
  guarded = λ txn index records key made log old new lock answer is was. lemmas.guarded_kept txn index records key made log old.granted new.granted
      (lemmas.answered_locks txn index old new lock answer is) was;
  alone = λ txn index key old new lock answer is has. (lemmas.answered_locks txn index old new lock answer is).alone key has;
}
