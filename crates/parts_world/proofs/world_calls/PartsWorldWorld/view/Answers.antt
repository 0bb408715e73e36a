use Rattle.std.proofs.Common.{arith}
use Rattle.std.proofs.lemmas.Grind.{elements}
use Rattle.parts_world.proofs.world_calls.PartsWorldWorld.view.Goals as goal

pub returns-in_ok-into-in-Some-clause-shown : goal.returns-in_ok-into-in-Some-clause-shown
returns-in_ok-into-in-Some-clause-shown g c = grind (arith, elements) steps 2000000

pub returns-in-None-clause-shown : goal.returns-in-None-clause-shown
returns-in-None-clause-shown g c = grind (arith, elements) steps 2000000
