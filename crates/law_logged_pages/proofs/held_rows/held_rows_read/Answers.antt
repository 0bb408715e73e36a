use Rattle.law_logged_pages.proofs.FirstCommitted.{held_rows_read}
use Rattle.law_logged_pages.proofs.held_rows.held_rows_read.Goals as goal

pub returns : goal.returns
returns c = held_rows_read
