use Rattle.law_read_pages.proofs.Alone.{cleaned}
use Rattle.law_read_pages.proofs.undo.a_cleaned_record_reads_the_same.Goals as goal

pub returns : goal.returns
returns c = cleaned
