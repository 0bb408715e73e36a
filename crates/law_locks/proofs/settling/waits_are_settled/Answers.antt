use Rattle.law_locks.proofs.Rounds.{settled_free}
use Rattle.law_locks.proofs.Starting.{all_meet_asker}
use Rattle.law_locks.proofs.settling.waits_are_settled.Goals as goal

pub returns : goal.returns
returns c old new lock edges sizes asked rounds sound free is sound_now settled =
    settled_free _ sizes asked _ sound_now (all_meet_asker old new lock edges sound free is) rounds settled
