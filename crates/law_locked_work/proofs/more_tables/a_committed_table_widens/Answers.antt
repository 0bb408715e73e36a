use Rattle.law_locked_work.proofs.Claims.{base_wide}
use Rattle.law_locked_work.proofs.more_tables.a_committed_table_widens.Goals as goal

pub returns : goal.returns
returns c = λ s u schema past made of. base_wide s u schema past made of
