use Rattle.law_logged_pages.proofs.Along.{leaves_some}
use Rattle.law_logged_pages.proofs.readings.a_crash_leaves_some_commits.Goals as goal

pub returns : goal.returns
returns g c = λ after commits acked run first flushed groups base s image found ignores is along keeps left honest finds.
    leaves_some _ after commits acked first flushed groups base along run s image found ignores is keeps left honest finds
