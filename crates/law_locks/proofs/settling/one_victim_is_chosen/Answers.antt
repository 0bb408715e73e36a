use Rattle.law_locks.proofs.Rounds.{one_victim}
use Rattle.law_locks.proofs.settling.one_victim_is_chosen.Goals as goal

pub returns : goal.returns
returns c cycle sizes asked txn other first second = one_victim cycle sizes asked txn other first second
