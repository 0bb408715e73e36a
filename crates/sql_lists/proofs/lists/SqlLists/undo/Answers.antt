use Rattle.std.proofs.Common.{sym}
use Rattle.sql_lists.proofs.Keeping.{by_undo}
use Rattle.sql_lists.proofs.lists.SqlLists.undo.Goals as goal

pub invariant_of-self : goal.invariant_of-self
invariant_of-self g c =
    by_undo c.args.session (g.L.SharedLists.lists c.self.inside.lists) (g.L.SharedLists.lists c.undo.new.self) c.undo.result
    (rw c.self.view_is c.requires.may) (rw c.self.view_is c.requires.of_row)
    c.undo.ensures.takes c.undo.ensures.settings c.undo.ensures.rows c.self.invariant

pub returns : goal.returns
returns g c = record { takes = rw (sym c.self.view_is) c.undo.ensures.takes }
