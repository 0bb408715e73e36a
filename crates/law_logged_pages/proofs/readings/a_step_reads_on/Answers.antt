use Rattle.law_logged_pages.proofs.Along.{reads_on}
use Rattle.law_logged_pages.proofs.readings.a_step_reads_on.Goals as goal

pub returns : goal.returns
returns g c = λ after later commits now acked first flushed groups more base along few rise kept newest.
    reads_on _ after commits acked first flushed groups base along later now more few rise kept newest
