use Rattle.law_locks.proofs.AtOnce as lemmas
use Rattle.law_locks.proofs.insertions.it_keeps_guards.Goals as goal

pub returns : goal.returns
returns c = record {
  guards = λ txn other records key guarded new next intention own old last step was.
      lemmas.guards_then txn records key new next intention own old last step other guarded was;
  guarded = λ txn other records key guarded new next intention own old last made log step was.
      lemmas.guarded_then txn records key new next intention own old last step other guarded made log was;
  alone = λ txn other index records key kept new next intention own old last step has.
      (lemmas.keeps txn records key new next intention own old last step other index).alone kept has;
}
