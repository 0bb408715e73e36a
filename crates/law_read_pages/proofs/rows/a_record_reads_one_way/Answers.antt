use Rattle.law_read_pages.proofs.Reading.{reads_one_way}
use Rattle.law_read_pages.proofs.rows.a_record_reads_one_way.Goals as goal

pub returns : goal.returns
returns c = reads_one_way
