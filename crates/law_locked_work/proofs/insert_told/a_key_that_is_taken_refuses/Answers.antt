use Rattle.law_locked_work.proofs.Telling.{taken}
use Rattle.law_locked_work.proofs.insert_told.a_key_that_is_taken_refuses.Goals as goal

pub returns : goal.returns
returns c = λ statement name names n schema s made tuple tuples past row r keyed is there.
    taken statement name names n schema s made tuple tuples past r keyed row is there
