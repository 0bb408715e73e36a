use Rattle.std.proofs.Common.{arith}
use Rattle.std.proofs.lemmas.Grind.{elements}
use Rattle.engine.proofs.layout.lay.Goals as goal

pub returns-then-not-all_can_be_made-clause-unfit : goal.returns-then-not-all_can_be_made-clause-unfit
returns-then-not-all_can_be_made-clause-unfit c = grind (arith, elements) steps 2000000
