use Rattle.std.proofs.Common.{sym}
use Rattle.sql_lists.proofs.Keeping.{by_change}
use Rattle.sql_lists.proofs.lists.SqlLists.change.Goals as goal

pub invariant_of-self : goal.invariant_of-self
invariant_of-self g c =
    by_change c.args.session (g.L.SharedLists.lists c.self.inside.lists) (g.L.SharedLists.lists c.change.new.self) c.change.result
    (rw c.self.view_is c.requires.alone) (rw c.self.view_is c.requires.may) c.change.ensures.changes c.change.ensures.settings
    c.change.ensures.rows c.self.invariant

pub change-requires-clause-may : goal.change-requires-clause-may
change-requires-clause-may g c change is =
    let may = c.requires.may change (rw (sym c.self.view_is) is) in (rw c.self.view_is may.0.is_open, rw c.self.view_is may.1)
