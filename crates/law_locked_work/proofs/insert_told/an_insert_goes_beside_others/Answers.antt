use Rattle.law_locked_work.proofs.Going.{stays}
use Rattle.law_locked_work.proofs.insert_told.an_insert_goes_beside_others.Goals as goal

pub returns : goal.returns
returns c = λ statement name names n schema s made tuples old new owns before beside r.
    stays name names n schema s statement made tuples old new owns before beside r
