use Rattle.std.proofs.Common.{arith}
use Rattle.std.proofs.lemmas.Grind.{common_steps}
use Rattle.turn_engine.proofs.hall.absorb.Goals as goal

pub returns-clause-seat : goal.returns-clause-seat
returns-clause-seat g c = grind (arith, common_steps) steps 2000000
