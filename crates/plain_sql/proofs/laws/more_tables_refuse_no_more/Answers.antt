use Rattle.plain_sql.proofs.MoreTables.{more_tables}
use Rattle.plain_sql.proofs.laws.more_tables_refuse_no_more.Goals as goal

pub returns : goal.returns
returns c = more_tables
