use Rattle.sql_text.specs.Whole.{locking_of}
use Rattle.std.proofs.Common.{arith}
use Rattle.std.proofs.lemmas.Grind.{common_steps}
use Rattle.sql_text.proofs.selected.locking.Goals as goal

pub returns-in-Key : goal.returns-in-Key
unfolding locking_of
returns-in-Key c = grind (arith, common_steps) steps 2000000

pub returns-in-Key-2 : goal.returns-in-Key-2
unfolding locking_of
returns-in-Key-2 c = grind (arith, common_steps) steps 2000000
