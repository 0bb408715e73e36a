use Rattle.std.proofs.Common.{◌+◌}
use Rattle.shared_lists.specs.State.{Lists}
use Rattle.sql_lists.proofs.Keeping.{by_begin, kept_begin}
use Rattle.sql_lists.proofs.lists.SqlLists.begin.Goals as goal
use Rattle.inno_model.specs.{Past.begins, declared.event.Event.TheVariants.Begin}

pub invariant_of-self : goal.invariant_of-self
invariant_of-self g c =
    let old : Lists = g.L.SharedLists.lists c.self.inside.lists in
    by_begin c.begin.result (Begin c.args.session (begins old.state.past + 1) c.args.level) c.args.session old (g.L.SharedLists.lists c.begin.new.self) _
    c.begin.ensures.ok c.begin.ensures.err c.begin.ensures.settings c.begin.ensures.unset c.begin.ensures.rows c.self.invariant
    (kept_begin c.self.invariant c.args.session c.args.level (rw c.self.view_is c.requires.joined) (rw c.self.view_is c.requires.may))
