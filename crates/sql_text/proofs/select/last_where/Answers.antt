use Rattle.sql_text.proofs.SoundStatements.{last_where_spelled}
use Rattle.sql_text.proofs.select.last_where.Goals as goal

pub returns-in-Ok-clause-spelled : goal.returns-in-Ok-clause-spelled
returns-in-Ok-clause-spelled c =
    last_where_spelled c.args.tokens.now c.in_ok-filter.rest.now c.in_ok-filter.filter c.in_ok-filter.ensures.spelled c.in-Ok.ensures
