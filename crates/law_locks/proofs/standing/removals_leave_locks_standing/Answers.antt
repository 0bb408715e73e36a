use Rattle.law_locks.proofs.Places as lemmas
use Rattle.law_locks.proofs.standing.removals_leave_locks_standing.Goals as goal

pub returns : goal.returns
returns c by records gone_key gone next granted waiting removes all = lemmas.removed_stand by records gone_key gone next removes granted waiting all
