use Rattle.law_logged_pages.proofs.Placement.{batch_keeps}
use Rattle.law_logged_pages.proofs.placing.a_batch_keeps.Goals as goal

pub returns : goal.returns
returns c = λ run first flushed groups base batch before s placed may keeps log.
    batch_keeps first flushed groups base batch before placed may run s keeps log
