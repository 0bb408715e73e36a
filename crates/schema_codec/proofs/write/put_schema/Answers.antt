use Rattle.schema_codec.proofs.Lengths.{lengths}
use Rattle.std.proofs.Common.{arith}
use Rattle.std.proofs.lemmas.Grind.{common_steps}
use Rattle.schema_codec.proofs.write.put_schema.Goals as goal

pub returns-clause-ok : goal.returns-clause-ok
returns-clause-ok c = grind (arith, common_steps, lengths) steps 2000000
