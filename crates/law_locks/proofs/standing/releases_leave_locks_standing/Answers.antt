use Rattle.law_locks.proofs.Places as lemmas
use Rattle.law_locks.proofs.standing.releases_leave_locks_standing.Goals as goal

pub returns : goal.returns
returns c index records gone granted waiting all = lemmas.released_stand index records gone granted waiting all
