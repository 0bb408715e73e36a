use Rattle.law_logged_pages.proofs.Along.{flushed_on}
use Rattle.law_logged_pages.proofs.readings.a_flush_reads_on.Goals as goal

pub returns : goal.returns
returns g c = λ after commits acked first flushed last groups base along upto end.
    flushed_on _ after commits acked first flushed groups base along last upto end
