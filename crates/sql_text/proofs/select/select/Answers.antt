use Rattle.sql_text.proofs.SoundStatements.{select_spelled}
use Rattle.sql_text.proofs.select.select.Goals as goal

pub returns-clause-spelled : goal.returns-clause-spelled
returns-clause-spelled c =
    select_spelled c.args.tokens.now c.in_ok-selected.rest.now c.in_ok-table.rest.now c.in_ok-selected.selected c.in_ok-table.table c.in_ok-filter.filter c.in_ok-filter.lock c.in_ok-selected.ensures c.in_ok-table.ensures c.in_ok-filter.ensures.spelled
