use Rattle.sql_lists.proofs.Keeping.{by_now, kept_ack}
use Rattle.sql_lists.proofs.lists.SqlLists.ack.Goals as goal

pub invariant_of-self : goal.invariant_of-self
invariant_of-self g c =
    by_now (g.L.SharedLists.lists c.self.inside.lists) (g.L.SharedLists.lists c.ack.new.self) c.ack.ensures.adds c.ack.ensures.settings c.ack.ensures.rows
    (kept_ack c.self.invariant c.args.session c.args.moment (rw c.self.view_is c.requires.may) (rw c.self.view_is c.requires.later))
