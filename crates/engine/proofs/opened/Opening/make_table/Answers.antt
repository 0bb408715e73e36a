use Rattle.engine.proofs.Laying.{laid_table}
use Rattle.engine.proofs.opened.Opening.make_table.Goals as goal

pub invariant_of-result : goal.invariant_of-result
invariant_of-result c =
    rw (c.in_ok-add_change.ensures) (laid_table c.self.inside.db c.args.schema _ _ c.requires.storable c.self.invariant c.in_ok-lay_table.ensures.ok)
