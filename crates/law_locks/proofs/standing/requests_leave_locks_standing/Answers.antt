use Rattle.law_locks.proofs.Places as lemmas
use Rattle.law_locks.proofs.standing.requests_leave_locks_standing.Goals as goal

pub returns : goal.returns
returns c index records old new lock answer is there all = lemmas.answered_stand index records old new lock answer is there all
