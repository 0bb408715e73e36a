use Rattle.std.proofs.Common.{arith}
use Rattle.std.proofs.lemmas.Grind.{common_steps}
use Rattle.sql_refusals.proofs.typing.fits_tuple.Goals as goal

pub returns-then-not-fits_column : goal.returns-then-not-fits_column
returns-then-not-fits_column c = grind (arith, common_steps) steps 2000000

pub loop-place-preserved : goal.loop-place-preserved
loop-place-preserved c = grind (arith, common_steps) steps 2000000

pub returns : goal.returns
returns c = grind (arith, common_steps) steps 2000000
