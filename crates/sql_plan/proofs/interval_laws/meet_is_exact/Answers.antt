use Rattle.sql_plan.proofs.Exact.{meet_exact}
use Rattle.sql_plan.proofs.interval_laws.meet_is_exact.Goals as goal

pub returns : goal.returns
returns c = meet_exact
