use Rattle.law_locks.proofs.Guarding as lemmas
use Rattle.law_locks.proofs.guards.releases_of_others_keep_guards.Goals as goal

pub returns : goal.returns
returns c = record {
  guards = λ txn index records key gone granted waiting differ was. lemmas.guards_kept txn index records key granted _
      (lemmas.given_back_locks txn index gone granted waiting differ) was;
  guarded = λ txn index records key made log gone granted waiting differ was. lemmas.guarded_kept txn index records key made log granted _
      (lemmas.given_back_locks txn index gone granted waiting differ) was;
  alone = λ txn index key gone granted waiting differ has. (lemmas.given_back_locks txn index gone granted waiting differ).alone key has;
}
