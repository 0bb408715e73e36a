use Rattle.std.proofs.Common.{sym}
use Rattle.sql_lists.proofs.lists.SqlLists.read_newest.Goals as goal

pub returns-clause-found : goal.returns-clause-found
returns-clause-found g c = rw (sym c.self.view_is) c.read_newest.ensures.found
