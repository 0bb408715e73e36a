use Rattle.law_locked_rows.proofs.Quiet.{locks_kept}
use Rattle.law_locked_rows.proofs.stores.calls_of_the_lock_table_keep_all.Goals as goal

pub returns : goal.returns
returns c store granted now held apart keeps = locks_kept held apart keeps
