use Rattle.inno_model.specs.declared.event.Event.TheVariants.{View}
use Rattle.sql_lists.proofs.Keeping.{by_result, kept_view}
use Rattle.sql_lists.proofs.lists.SqlLists.take_view.Goals as goal

pub invariant_of-self : goal.invariant_of-self
invariant_of-self g c =
    by_result c.take_view.result (View c.args.session) c.args.session (g.L.SharedLists.lists c.self.inside.lists) (g.L.SharedLists.lists c.take_view.new.self)
    c.take_view.ensures.ok c.take_view.ensures.err c.take_view.ensures.settings c.take_view.ensures.rows c.self.invariant
    (kept_view c.self.invariant c.args.session (rw c.self.view_is c.requires.may) (rw c.self.view_is c.requires.is_open)
    (rw c.self.view_is c.requires.unlocked))
