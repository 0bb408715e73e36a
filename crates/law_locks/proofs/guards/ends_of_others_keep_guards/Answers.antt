use Rattle.law_locks.proofs.Guarding as lemmas
use Rattle.law_locks.proofs.guards.ends_of_others_keep_guards.Goals as goal

pub returns : goal.returns
returns c = record {
  guards = λ txn other index records key granted waiting differ was. lemmas.guards_kept txn index records key granted _
      (lemmas.ended_locks txn index other granted waiting differ) was;
  guarded = λ txn other index records key made log granted waiting differ was. lemmas.guarded_kept txn index records key made log granted _
      (lemmas.ended_locks txn index other granted waiting differ) was;
  alone = λ txn other index key granted waiting differ has. (lemmas.ended_locks txn index other granted waiting differ).alone key has;
}
