use Rattle.log_format.specs.Block.{payload_of}
use Rattle.std.proofs.Common.{arith}
use Rattle.std.proofs.lemmas.Grind.{common_steps}
use Rattle.log_format.proofs.scan.payload.Goals as goal

pub returns-then-used-rest-clause-payload : goal.returns-then-used-rest-clause-payload
unfolding payload_of
returns-then-used-rest-clause-payload c = grind (arith, common_steps) steps 2000000

pub returns-else-used-rest-clause-payload : goal.returns-else-used-rest-clause-payload
unfolding payload_of
returns-else-used-rest-clause-payload c = grind (arith, common_steps) steps 2000000
