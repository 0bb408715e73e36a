use Rattle.law_read_pages.proofs.Reading.{reads_one_way}
use Rattle.law_read_pages.proofs.Once.{same_schemas, same_rows}
use Rattle.law_read_pages.proofs.pages.pages_stand_for_one_database.Goals as goal

pub returns : goal.returns
returns c = λ pages kept open_id db other one two. (
  same_schemas pages kept kept open_id (λ schema key. reads_one_way schema key kept open_id) db other one two,
  same_rows pages kept kept open_id (λ schema key. reads_one_way schema key kept open_id) db other one two,
)
