use Rattle.law_locks.proofs.AtOnce as lemmas
use Rattle.law_locks.proofs.insertions.it_is_an_insertion.Goals as goal

pub returns : goal.returns
returns c txn records key new next intention own old last step = lemmas.inserts txn records key new next intention own old last step
