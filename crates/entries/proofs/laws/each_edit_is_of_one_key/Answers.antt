use Rattle.entries.proofs.Found.{value_put, others_stay, value_gone, others_stay_without}
use Rattle.entries.proofs.laws.each_edit_is_of_one_key.Goals as goal

pub returns-clause-put : goal.returns-clause-put
returns-clause-put c = value_put

pub returns-clause-stays : goal.returns-clause-stays
returns-clause-stays c = others_stay

pub returns-clause-removed : goal.returns-clause-removed
returns-clause-removed c = value_gone

pub returns-clause-is_left : goal.returns-clause-is_left
returns-clause-is_left c = others_stay_without
