use Rattle.std.proofs.Common.{length, get_or, true}
use Rattle.inno_types.specs.declared.stmt.Stmt.TheVariants as stmts
use Rattle.inno_model.specs.Past.{level, own}
use Rattle.sql_history.specs.Settings.{Setting, at_first, saved}
use Rattle.shared_lists.specs.State.{Lists}
use Rattle.sql_lists.proofs.Keeping.{by_setting, saves_as}
use Rattle.sql_lists.proofs.lists.SqlLists.end_savepoint.Goals as goal

pub invariant_of-self-2 : goal.invariant_of-self-2
invariant_of-self-2 g c =
    let old : Lists = g.L.SharedLists.lists c.self.inside.lists in
    let x : Setting = get_or old.settings c.args.session at_first in
    let made = length (own c.args.session old.state.past) in
    by_setting c.args.session (stmts.Savepoint c.args.name.now) (record x { saves = saved c.args.name.now made true x.saves }) old
    (g.L.SharedLists.lists c.save.new.self) (g.L.SharedLists.lists c.end.new.self) (rw c.self.view_is c.requires.joined) (rw c.self.view_is c.requires.may)
    (rw c.self.view_is c.requires.asked) (saves_as c.args.name.now made (level c.args.session old.state.past) x (rw c.self.view_is c.requires.is_open))
    c.in_ok-save.ensures.same c.in_ok-save.ensures.ok c.in_ok-save.ensures.rows c.end.ensures.adds c.end.ensures.settings c.end.ensures.rows c.self.invariant
