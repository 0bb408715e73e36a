use Rattle.sql_text.proofs.SoundStatements.{assignment_spelled}
use Rattle.sql_text.proofs.select.assignment.Goals as goal

pub returns-clause-spelled : goal.returns-clause-spelled
returns-clause-spelled c =
    assignment_spelled c.args.tokens.now c.in_ok-column.rest.now c.in_ok-right.right.now c.in_ok-value.rest.now c.in_ok-column.column c.in_ok-value.value c.in_ok-column.ensures c.in_ok-right.ensures c.in_ok-value.ensures.spelled
