use Rattle.std.proofs.Common.{arith}
use Rattle.std.proofs.lemmas.Grind.{elements}
use Rattle.engine.proofs.tables.is_storable.Goals as goal

pub returns-then-are_keys_on : goal.returns-then-are_keys_on
returns-then-are_keys_on c = grind (arith, elements) steps 2000000

pub returns-else-are_keys_on : goal.returns-else-are_keys_on
returns-else-are_keys_on c = grind (arith, elements) steps 2000000
