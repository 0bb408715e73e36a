use Rattle.sql_lists.proofs.Keeping.{by_now, kept_commit}
use Rattle.sql_lists.proofs.lists.SqlLists.commit.Goals as goal

pub invariant_of-self : goal.invariant_of-self
invariant_of-self g c =
    by_now (g.L.SharedLists.lists c.self.inside.lists) (g.L.SharedLists.lists c.commit.new.self) c.commit.ensures.closes c.commit.ensures.settings
    c.commit.ensures.rows
    (kept_commit c.self.invariant c.args.session (rw c.self.view_is c.requires.joined) (rw c.self.view_is c.requires.may))
