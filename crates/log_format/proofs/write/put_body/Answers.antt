use Rattle.log_format.specs.Group.{body}
use Rattle.schema_codec.proofs.Lengths.{lengths}
use Rattle.std.proofs.Common.{arith}
use Rattle.std.proofs.lemmas.Grind.{common_steps}
use Rattle.log_format.proofs.write.put_body.Goals as goal

pub returns-clause-ok : goal.returns-clause-ok
unfolding body
returns-clause-ok c = grind (arith, common_steps, lengths) steps 2000000
