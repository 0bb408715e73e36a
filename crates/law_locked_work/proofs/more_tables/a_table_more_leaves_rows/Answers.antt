use Rattle.law_locked_work.proofs.Rows.{made_leaves, commit_leaves}
use Rattle.law_locked_work.proofs.more_tables.a_table_more_leaves_rows.Goals as goal

pub returns-clause-made : goal.returns-clause-made
returns-clause-made c = λ t s n schema h place ordered differ within. made_leaves t s n schema h place ordered differ within

pub returns-clause-committed : goal.returns-clause-committed
returns-clause-committed c = λ t s schema h place differ made. commit_leaves t s schema h place differ made
