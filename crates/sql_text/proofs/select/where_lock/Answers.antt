use Rattle.sql_text.proofs.SoundStatements.{where_lock_spelled}
use Rattle.sql_text.proofs.select.where_lock.Goals as goal

pub returns-in-Ok-clause-spelled : goal.returns-in-Ok-clause-spelled
returns-in-Ok-clause-spelled c =
    where_lock_spelled c.args.tokens.now c.in_ok-filter.rest.now c.in_ok-filter.filter c.in-Ok.lock c.in_ok-filter.ensures.spelled c.in-Ok.ensures
