use Rattle.std.proofs.Common.{sym, subst, ap, ◌∙◌}
use Rattle.txn_table.specs.Txns.{AreBegun, without}
use Rattle.txn_table.proofs.Open.{begun_without, removed}
use Rattle.txn_table.proofs.TxnTable.end.Goals as goal

pub invariant_of-self : goal.invariant_of-self
invariant_of-self c =
    let entries = c.self.inside.«open».entries in
    subst (AreBegun c.self.inside.begun) (sym (c.shift_remove.ensures.entries ∙ removed c.self.inside.begun c.args.txn entries c.self.invariant)) (begun_without c.self.inside.begun c.args.txn entries c.self.invariant)

pub returns : goal.returns
returns c =
    rw (← c.self.view_is)
    (ap (λ es. record { open_txns = es; begun = c.self.inside.begun; next = c.self.inside.next })
    (c.shift_remove.ensures.entries ∙ removed c.self.inside.begun c.args.txn c.self.inside.«open».entries c.self.invariant))
