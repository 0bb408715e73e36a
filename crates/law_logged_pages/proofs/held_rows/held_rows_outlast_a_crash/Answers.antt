use Rattle.law_logged_pages.specs.HeldRows.{read_by}
use Rattle.law_logged_pages.proofs.Along.{leaves_some}
use Rattle.law_logged_pages.proofs.held_rows.held_rows_outlast_a_crash.Goals as goal

pub returns : goal.returns
returns c = λ show after commits acked run first flushed groups base s image found ignores is along keeps left honest finds.
    leaves_some (read_by show) after commits acked first flushed groups base along run s image found ignores is keeps left honest finds
