use Rattle.std.proofs.Common.{arith}
use Rattle.std.proofs.lemmas.Grind.{elements}
use Rattle.row_codec.proofs.fields.whole_field.Goals as goal

pub returns-then-all-clause-found : goal.returns-then-all-clause-found
returns-then-all-clause-found c = grind (arith, elements) steps 2000000
