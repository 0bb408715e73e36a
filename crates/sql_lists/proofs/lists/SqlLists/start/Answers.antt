use Rattle.std.proofs.Common.{◌+◌}
use Rattle.shared_lists.specs.State.{Lists}
use Rattle.sql_lists.proofs.Keeping.{by_result, kept_start}
use Rattle.sql_lists.proofs.lists.SqlLists.start.Goals as goal
use Rattle.inno_model.specs.{Past.started, declared.event.Event.TheVariants.Started}

pub invariant_of-self : goal.invariant_of-self
invariant_of-self g c =
    let old : Lists = g.L.SharedLists.lists c.self.inside.lists in
    by_result c.start.result (Started c.args.session (started c.args.session old.state.past + 1) c.args.item) c.args.session old
    (g.L.SharedLists.lists c.start.new.self) c.start.ensures.ok c.start.ensures.err c.start.ensures.settings c.start.ensures.rows c.self.invariant
    (kept_start c.self.invariant c.args.session c.args.item (rw c.self.view_is c.requires.idle) (rw c.self.view_is c.requires.stays))
