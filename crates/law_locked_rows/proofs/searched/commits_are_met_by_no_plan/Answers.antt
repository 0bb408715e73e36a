use Rattle.law_locked_rows.proofs.Unmet.{commit_unmet}
use Rattle.law_locked_rows.proofs.searched.commits_are_met_by_no_plan.Goals as goal

pub returns : goal.returns
returns c store granted s t table made session work plan log key held owned has differs quiet keeps touched =
    commit_unmet held owned has t differs quiet table plan keeps key touched
