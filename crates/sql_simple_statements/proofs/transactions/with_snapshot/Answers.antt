use Rattle.sql_simple_statements.specs.Statements.{with_snapshot_of}
use Rattle.std.proofs.Common.{arith}
use Rattle.std.proofs.lemmas.Grind.{common_steps}
use Rattle.sql_simple_statements.proofs.transactions.with_snapshot.Goals as goal

pub returns-in-Bare : goal.returns-in-Bare
unfolding with_snapshot_of
returns-in-Bare c = grind (arith, common_steps) steps 2000000
