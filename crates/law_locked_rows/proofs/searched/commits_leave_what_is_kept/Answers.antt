use Rattle.law_locked_rows.proofs.Committing.{commit_stays}
use Rattle.law_locked_rows.proofs.searched.commits_leave_what_is_kept.Goals as goal

pub returns : goal.returns
returns c store granted s t table which made session work schema range log passes held owned has differs quiet there le keeps =
    commit_stays held owned has t differs quiet table there le keeps
