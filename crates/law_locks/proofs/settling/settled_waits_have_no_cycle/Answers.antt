use Rattle.law_locks.proofs.Rounds.{settled_free}
use Rattle.law_locks.proofs.settling.settled_waits_have_no_cycle.Goals as goal

pub returns : goal.returns
returns c grown sizes asked lists rounds sound meet settled = settled_free grown sizes asked lists sound meet rounds settled
