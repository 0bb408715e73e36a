use Rattle.sql_plan.proofs.Exact.{comparison_exact}
use Rattle.sql_plan.proofs.interval_laws.comparisons_are_exact.Goals as goal

pub returns : goal.returns
returns c = comparison_exact
