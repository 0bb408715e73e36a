use Rattle.law_locks.proofs.Removal.{removal_closes}
use Rattle.law_locks.proofs.closing.removals_close_those_of_inserters.Goals as goal

pub returns : goal.returns
returns c by gone next granted waiting cycle single stands = removal_closes by gone next granted waiting single cycle stands
