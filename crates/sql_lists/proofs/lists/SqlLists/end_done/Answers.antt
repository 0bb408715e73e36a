use Rattle.std.proofs.Common.{false, length, get_or}
use Rattle.inno_model.specs.Past.{own}
use Rattle.sql_history.specs.Settings.{at_first, set_by}
use Rattle.shared_lists.specs.State.{Lists}
use Rattle.sql_lists.proofs.Keeping.{by_setting, sets_quietly}
use Rattle.sql_lists.proofs.lists.SqlLists.end_done.Goals as goal

pub invariant_of-self : goal.invariant_of-self
invariant_of-self g c =
    let old : Lists = g.L.SharedLists.lists c.self.inside.lists in
    let x = get_or old.settings c.args.session at_first in
    by_setting c.args.session c.args.stmt.now (set_by c.args.stmt.now 0 false x) old (g.L.SharedLists.lists c.set.new.self)
    (g.L.SharedLists.lists c.end.new.self) (rw c.self.view_is c.requires.joined)
    (rw c.self.view_is c.requires.may) (rw c.self.view_is c.requires.asked)
    (sets_quietly c.args.stmt.now c.args.session (length (own c.args.session old.state.past)) old.state.past x (rw c.self.view_is c.requires.quiet))
    c.set.ensures.same c.set.ensures.settings c.set.ensures.rows c.end.ensures.adds c.end.ensures.settings c.end.ensures.rows c.self.invariant
