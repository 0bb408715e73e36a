use Rattle.law_locks.proofs.Places as lemmas
use Rattle.law_locks.proofs.standing.new_records_are_free.Goals as goal

pub returns : goal.returns
returns c txn records new_key new next granted waiting asked insertion all own at =
    lemmas.new_is_free records new_key new next insertion txn granted waiting asked all own at
