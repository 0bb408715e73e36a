use Rattle.law_read_pages.proofs.Reading.{reads_on}
use Rattle.law_read_pages.proofs.rows.a_rollback_leaves_what_is_read.Goals as goal

pub returns : goal.returns
returns c = reads_on
