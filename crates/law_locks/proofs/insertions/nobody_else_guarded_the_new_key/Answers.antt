use Rattle.law_locks.proofs.AtOnce as lemmas
use Rattle.law_locks.proofs.insertions.nobody_else_guarded_the_new_key.Goals as goal

pub returns : goal.returns
returns c txn other records key new next intention own old last differ step was =
    lemmas.nobody_guards txn records key new next intention own old last step other differ was
