use Rattle.sql_plan.proofs.Inserting.{other_keys}
use Rattle.sql_plan.proofs.other_keys.other_keys_make_no_difference.Goals as goal

pub returns : goal.returns
returns c = λ passes table schema names rows tuples all holds. other_keys passes table schema names rows all tuples holds
