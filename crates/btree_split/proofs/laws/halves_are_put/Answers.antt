use Rattle.btree_split.proofs.Put.{lower_put, upper_put}
use Rattle.btree_split.proofs.laws.halves_are_put.Goals as goal

pub returns-clause-lower : goal.returns-clause-lower
returns-clause-lower c = λ bytes page image new key i number shown put half. lower_put bytes page image new key i number shown put half

pub returns-clause-upper : goal.returns-clause-upper
returns-clause-upper c = λ bytes page image new key i number shown put half. upper_put bytes page image new key i number shown put half
