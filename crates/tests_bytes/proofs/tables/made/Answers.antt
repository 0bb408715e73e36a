use Rattle.std.proofs.Common.{arith}
use Rattle.tests_bytes.proofs.Resting.{few_used}
use Rattle.tests_bytes.proofs.tables.made.Goals as goal

pub create-requires-clause-room : goal.create-requires-clause-room
create-requires-clause-room c = λ told. record { tables = c.in_ok-tables.tables; catalog = c.in_ok-tables.ensures.told told; fewer = omega arith; new_name = cc }

pub create-requires-clause-few : goal.create-requires-clause-few
create-requires-clause-few c = omega (arith, few_used _ c.in_ok-tables.ensures.begun)
