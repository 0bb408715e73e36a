use Rattle.law_locks.proofs.Rounds.{rounds_end}
use Rattle.law_locks.proofs.settling.rounds_come_to_an_end.Goals as goal

pub returns : goal.returns
returns c grown sizes asked lists rounds are = rounds_end grown sizes asked lists rounds are
