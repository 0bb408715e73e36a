use Rattle.sql_text.proofs.SoundStatements.{update_spelled}
use Rattle.sql_text.proofs.select.update.Goals as goal

pub returns-clause-spelled : goal.returns-clause-spelled
returns-clause-spelled c =
    update_spelled c.args.tokens.now c.in_ok-table.rest.now c.in_ok-sets.rest.now c.in_ok-table.table c.in_ok-sets.sets c.in_ok-filter.filter c.in_ok-table.ensures c.in_ok-sets.ensures.spelled c.in_ok-filter.ensures.spelled
