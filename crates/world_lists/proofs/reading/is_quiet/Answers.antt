use Rattle.std.proofs.Common.{arith}
use Rattle.std.proofs.lemmas.Grind.{elements}
use Rattle.world_lists.proofs.reading.is_quiet.Goals as goal

pub returns-in_default : goal.returns-in_default
returns-in_default c = grind (arith, elements) steps 2000000

pub returns-in-Nothing : goal.returns-in-Nothing
returns-in-Nothing c = grind (arith, elements) steps 2000000

pub returns-in-Nothing-2 : goal.returns-in-Nothing-2
returns-in-Nothing-2 c = grind (arith, elements) steps 2000000
