use Rattle.std.proofs.Common.{◌++◌, length}
use Rattle.law_logged_pages.specs.Applied.{logical}
use Rattle.law_logged_pages.specs.HeldRows.{read_by}
use Rattle.law_logged_pages.proofs.Along.{reads_on}
use Rattle.law_logged_pages.proofs.FirstCommitted.{held_rows_read}
use Rattle.law_logged_pages.proofs.held_rows.a_step_of_held_rows_reads_on.Goals as goal

pub returns : goal.returns
returns c = λ show world after later commits now acked first flushed groups more base along few rise kept held shows.
    let newest = held_rows_read show world later now (logical base (groups ++ more) (length (groups ++ more))) held shows in
    reads_on (read_by show) after commits acked first flushed groups base along later now more few rise kept newest
