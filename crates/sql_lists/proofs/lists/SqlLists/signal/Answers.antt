use Rattle.inno_model.specs.declared.event.Event.TheVariants.{Signal}
use Rattle.sql_lists.proofs.Keeping.{by_result, kept_signal}
use Rattle.sql_lists.proofs.lists.SqlLists.signal.Goals as goal

pub invariant_of-self : goal.invariant_of-self
invariant_of-self g c =
    by_result c.signal.result (Signal c.args.name) c.args.session (g.L.SharedLists.lists c.self.inside.lists) (g.L.SharedLists.lists c.signal.new.self)
    c.signal.ensures.ok c.signal.ensures.err c.signal.ensures.settings c.signal.ensures.rows c.self.invariant
    (kept_signal c.self.invariant c.args.name (rw c.self.view_is c.requires.may))
