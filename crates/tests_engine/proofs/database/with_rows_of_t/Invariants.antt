use Rattle.tests_engine.specs.Tables.{HasBoth}
use Rattle.tests_engine.proofs.database.with_rows_of_t.Given as goal

abbrev pub invariant-loop-id : goal.invariant-loop-id
invariant-loop-id l = HasBoth l.opening
