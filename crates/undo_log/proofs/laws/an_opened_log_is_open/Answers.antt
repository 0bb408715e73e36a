use Rattle.undo_log.proofs.Slotted.{opened_is_open}
use Rattle.undo_log.proofs.laws.an_opened_log_is_open.Goals as goal

pub returns : goal.returns
returns c = λ slot id page old new opens told fresh some id_fits page_fits apart other.
    opened_is_open slot id page old new opens told fresh some id_fits page_fits apart other
