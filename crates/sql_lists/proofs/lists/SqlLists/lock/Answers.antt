use Rattle.std.proofs.Common.{sym}
use Rattle.sql_lists.proofs.lists.SqlLists.lock.Goals as goal

pub returns-clause-alone : goal.returns-clause-alone
returns-clause-alone g c = rw (sym c.self.view_is) c.lock.ensures.alone
