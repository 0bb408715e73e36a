use Rattle.sql_plan.proofs.Exact.{empty_exact}
use Rattle.sql_plan.proofs.interval_laws.empty_holds_nothing.Goals as goal

pub returns : goal.returns
returns c = empty_exact
