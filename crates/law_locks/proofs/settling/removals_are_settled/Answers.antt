use Rattle.law_locks.proofs.Rounds.{settled_free}
use Rattle.law_locks.proofs.Starting.{all_meet_inserters, sound_removed}
use Rattle.law_locks.proofs.settling.removals_are_settled.Goals as goal

pub returns : goal.returns
returns c by gone next granted waiting sizes asked rounds sound free settled =
    settled_free _ sizes asked _ (sound_removed by gone next granted waiting sound) (all_meet_inserters by gone next granted waiting sound free) rounds settled
