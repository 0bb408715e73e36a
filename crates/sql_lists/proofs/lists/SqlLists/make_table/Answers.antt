use Rattle.shared_lists.specs.State.{Lists}
use Rattle.sql_lists.proofs.Keeping.{by_make_table}
use Rattle.sql_lists.proofs.lists.SqlLists.make_table.Goals as goal

pub invariant_of-self : goal.invariant_of-self
invariant_of-self g c =
    by_make_table c.args.session c.args.level c.args.schema c.make_table.result (g.L.SharedLists.lists c.self.inside.lists)
    (g.L.SharedLists.lists c.make_table.new.self) c.self.invariant (rw c.self.view_is c.requires.joined) (rw c.self.view_is c.requires.may)
    (rw c.self.view_is c.requires.few) c.make_table.ensures.ok c.make_table.ensures.settings c.make_table.ensures.err c.make_table.ensures.rows
