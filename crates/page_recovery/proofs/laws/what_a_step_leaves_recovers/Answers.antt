use Rattle.page_recovery.proofs.Kept.{step_leaves}
use Rattle.page_recovery.proofs.laws.what_a_step_leaves_recovers.Goals as goal

pub returns : goal.returns
returns c = step_leaves
