use Rattle.law_locked_work.proofs.Going.{ends}
use Rattle.law_locked_work.proofs.insert_told.an_insert_ends.Goals as goal

pub returns : goal.returns
returns c = λ statement name names n schema s made past r. ends name names n schema s statement made past r
