use Rattle.std.proofs.Common.{ℕ, ◌+◌, ap, sym, subst, ◌∙◌}
use Rattle.txn_table.specs.declared.OpenTxn.{OpenTxn}
use Rattle.txn_table.specs.Txns.{Entry, Txns, AreBegun}
use Rattle.txn_table.proofs.Open.{put_new, begun_put}
use Rattle.txn_table.proofs.TxnTable.begin.Goals as goal

pub invariant_of-self-2 : goal.invariant_of-self-2
invariant_of-self-2 c =
    let txn : OpenTxn = record { session = c.args.s; level = c.args.level; id = 0 } in
    subst (AreBegun (c.self.inside.begun + 1)) (sym (c.in_ok-insert.ensures.entries ∙ put_new c.self.inside.begun c.self.inside.«open».entries txn c.self.invariant))
    (begun_put c.self.inside.begun c.self.inside.«open».entries txn c.self.invariant)

pub returns-clause-ok : goal.returns-clause-ok
returns-clause-ok c =
    let txn : OpenTxn = record { session = c.args.s; level = c.args.level; id = 0 } in
    rw (← c.self.view_is)
    (ap (λ es. record { open_txns = es; begun = c.self.inside.begun + 1; next = c.self.inside.next })
    (c.in_ok-insert.ensures.entries ∙ put_new c.self.inside.begun c.self.inside.«open».entries txn c.self.invariant))
