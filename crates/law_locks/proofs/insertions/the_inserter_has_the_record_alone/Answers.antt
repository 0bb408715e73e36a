use Rattle.law_locks.proofs.AtOnce as lemmas
use Rattle.law_locks.proofs.insertions.the_inserter_has_the_record_alone.Goals as goal

pub returns : goal.returns
returns c txn records key new next intention own old last step =
    lemmas.takes_alone txn key new next own step.asked last step.takes step.insertion.new_key
