use Rattle.std.proofs.Common.{arith}
use Rattle.std.proofs.lemmas.Grind.{common_steps, elements}
use Rattle.row_codec.proofs.fields.put_field.Goals as goal

pub returns-in-Null : goal.returns-in-Null
returns-in-Null c = grind (arith, elements) steps 2000000

pub returns-in_ok-push-in_default : goal.returns-in_ok-push-in_default
returns-in_ok-push-in_default c = grind (arith, common_steps) steps 2000000
