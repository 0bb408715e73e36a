use Rattle.schema_codec.proofs.Lengths.{lengths}
use Rattle.std.proofs.Common.{arith}
use Rattle.std.proofs.lemmas.Grind.{common_steps}
use Rattle.log_format.proofs.write.put_value.Goals as goal

pub returns-in_ok-push-in-Int-clause-ok : goal.returns-in_ok-push-in-Int-clause-ok
returns-in_ok-push-in-Int-clause-ok c = grind (arith, common_steps, lengths) steps 2000000

pub returns-in_ok-push-in-Text-clause-ok : goal.returns-in_ok-push-in-Text-clause-ok
returns-in_ok-push-in-Text-clause-ok c = grind (arith, common_steps, lengths) steps 2000000
