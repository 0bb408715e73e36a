use Rattle.giving_up.proofs.Closing.{asks_for_none}
use Rattle.giving_up.proofs.leaving.one_that_leaves_tells_no_change.Goals as goal

pub returns : goal.returns
returns c = λ state s m known. asks_for_none state s m known
