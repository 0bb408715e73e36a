use Rattle.law_locked_work.proofs.Going.{begins}
use Rattle.law_locked_work.proofs.insert_told.an_insert_begins.Goals as goal

pub returns : goal.returns
returns c = λ name names n schema s tuples past named there unrefused unchanged. begins name names n schema s tuples past named there unrefused unchanged
