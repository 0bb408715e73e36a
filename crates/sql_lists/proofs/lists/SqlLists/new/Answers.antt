use Rattle.sql_lists.proofs.Keeping.{kept_first}
use Rattle.sql_lists.proofs.lists.SqlLists.new.Goals as goal

pub invariant_of-result : goal.invariant_of-result
invariant_of-result g c = kept_first (g.L.SharedLists.lists c.args.lists) c.requires.first
