use Rattle.law_locks.proofs.Places as lemmas
use Rattle.law_locks.proofs.standing.withdrawals_leave_locks_standing.Goals as goal

pub returns : goal.returns
returns c index txn records granted waiting all = lemmas.withdrawn_stand index records txn granted waiting all
