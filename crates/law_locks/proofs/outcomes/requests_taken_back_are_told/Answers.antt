use Rattle.law_locks.proofs.Ended.{told_taken_back}
use Rattle.law_locks.proofs.outcomes.requests_taken_back_are_told.Goals as goal

pub returns : goal.returns
returns c txn table lock own waits = told_taken_back txn table lock own waits
