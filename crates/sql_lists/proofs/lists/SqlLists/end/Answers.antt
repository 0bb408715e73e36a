use Rattle.sql_lists.proofs.Keeping.{by_now, kept_reply}
use Rattle.sql_lists.proofs.lists.SqlLists.end.Goals as goal

pub invariant_of-self : goal.invariant_of-self
invariant_of-self g c =
    by_now (g.L.SharedLists.lists c.self.inside.lists) (g.L.SharedLists.lists c.end.new.self) c.end.ensures.adds c.end.ensures.settings c.end.ensures.rows
    (kept_reply c.self.invariant c.args.session c.args.reply (rw c.self.view_is c.requires.may) c.requires.not_done)
