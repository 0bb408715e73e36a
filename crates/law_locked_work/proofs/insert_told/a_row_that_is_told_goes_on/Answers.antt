use Rattle.law_locked_work.proofs.Telling.{told}
use Rattle.law_locked_work.proofs.insert_told.a_row_that_is_told_goes_on.Goals as goal

pub returns : goal.returns
returns c = λ statement name names n schema s made tuple tuples past row r keyed is absent.
    told statement name names n schema s made tuple tuples past r keyed row is absent
