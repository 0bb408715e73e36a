use Rattle.law_isolation.proofs.Beside.{tracks_beside}
use Rattle.law_isolation.proofs.work_goes_on_beside_a_commit.Goals as goal

pub returns : goal.returns
returns c db others pieces saves own theirs mine apart answered beside tracks =
    tracks_beside db others theirs pieces saves own mine apart answered beside tracks
