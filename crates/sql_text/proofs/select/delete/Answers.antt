use Rattle.sql_text.proofs.SoundStatements.{delete_spelled}
use Rattle.sql_text.proofs.select.delete.Goals as goal

pub returns-clause-spelled : goal.returns-clause-spelled
returns-clause-spelled c =
    delete_spelled c.args.tokens.now c.in_ok-table.rest.now c.in_ok-table.table c.in_ok-filter.filter c.in_ok-table.ensures c.in_ok-filter.ensures.spelled
