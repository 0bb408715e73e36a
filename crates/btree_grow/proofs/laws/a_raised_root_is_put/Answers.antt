use Rattle.btree_grow.proofs.Laid.{root_put}
use Rattle.btree_grow.proofs.laws.a_raised_root_is_put.Goals as goal

pub returns : goal.returns
returns c = λ n q level bytes page image new shown put is. root_put n q level bytes page image new shown put is
