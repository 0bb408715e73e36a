use Rattle.law_locked_work.proofs.Outcomes.{outcome_wide}
use Rattle.law_locked_work.proofs.more_tables.more_tables_leave_outcomes.Goals as goal

pub returns : goal.returns
returns c = λ some wide statement widens rows none. outcome_wide some wide widens statement rows none
