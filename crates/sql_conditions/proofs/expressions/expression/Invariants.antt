use Rattle.std.proofs.Common.{◌≡◌, ◌-◌}
use Rattle.sql_conditions.specs.Expressions.{Stands, steps, marks, after_expression}
use Rattle.sql_conditions.proofs.expressions.expression.Given as goal

abbrev pub invariant-loop : goal.invariant-loop
invariant-loop l = record {
  stands : Stands l.tokens l.stack l.rest;
  left : steps (l.count - l.counter) (marks l.stack) l.rest ≡ after_expression l.tokens;
}
