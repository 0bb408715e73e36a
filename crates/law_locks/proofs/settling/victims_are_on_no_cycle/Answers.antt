use Rattle.law_locks.proofs.Rounds.{free_of, waits_no_more}
use Rattle.law_locks.proofs.settling.victims_are_on_no_cycle.Goals as goal

pub returns : goal.returns
returns c txn lists = free_of _ _ txn (waits_no_more lists txn)
