use Rattle.sql_lists.proofs.Keeping.{by_now, kept_rollback}
use Rattle.sql_lists.proofs.lists.SqlLists.roll_back.Goals as goal

pub invariant_of-self : goal.invariant_of-self
invariant_of-self g c =
    by_now (g.L.SharedLists.lists c.self.inside.lists) (g.L.SharedLists.lists c.roll_back.new.self) c.roll_back.ensures.closes c.roll_back.ensures.settings
    c.roll_back.ensures.rows (kept_rollback c.self.invariant c.args.session (rw c.self.view_is c.requires.joined) (rw c.self.view_is c.requires.may))
