use Rattle.std.proofs.Common.{◌∙◌, arith}
use Rattle.sql_lists.proofs.Keeping.{by_now, kept_signalled}
use Rattle.sql_lists.proofs.lists.SqlLists.end_signal.Goals as goal

pub invariant_of-self : goal.invariant_of-self
invariant_of-self g c =
    by_now (g.L.SharedLists.lists c.self.inside.lists) (g.L.SharedLists.lists c.end.new.self) c.end.ensures.adds c.end.ensures.settings
    (c.end.ensures.rows ∙ omega arith) (kept_signalled c.self.invariant c.args.session (rw c.self.view_is c.requires.may) (rw c.self.view_is c.requires.asked))
