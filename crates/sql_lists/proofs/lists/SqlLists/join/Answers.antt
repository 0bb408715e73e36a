use Rattle.sql_lists.proofs.Keeping.{by_join}
use Rattle.sql_lists.proofs.lists.SqlLists.join.Goals as goal

pub invariant_of-self : goal.invariant_of-self
invariant_of-self g c =
    by_join c.join.result c.args.name (g.L.SharedLists.lists c.self.inside.lists) (g.L.SharedLists.lists c.join.new.self) c.join.ensures.names
    c.join.ensures.past c.join.ensures.settings c.join.ensures.rows c.join.ensures.err c.self.invariant
