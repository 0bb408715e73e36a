use Rattle.tests_locks.proofs.Trials.{last_of_three}
use Rattle.tests_locks.proofs.turns.gathered.Goals as goal

pub close-requires-clause-last : goal.close-requires-clause-last
close-requires-clause-last c =
    let r = c.requires.idle in
    last_of_three _ _ _ _ _ r.0 r.1 r.2 c.requires.names c.join.ensures.both c.join-2.ensures.both
