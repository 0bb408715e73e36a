use Rattle.std.proofs.Common.{ℕ, ◌≡◌, ◌+◌, nat_eq, List, ap, sym, subst, ◌∙◌}
use Rattle.std.specs.Prelude.{Some}
use Rattle.std.specs.Map.{lookup}
use Rattle.txn_table.specs.Txns.{AreBegun, with_id, Txns}
use Rattle.txn_table.proofs.Open.{begun_given, given_of}
use Rattle.txn_table.proofs.TxnTable.give_id.Goals as goal

pub invariant_of-self : goal.invariant_of-self
invariant_of-self c =
    subst (AreBegun c.self.inside.begun)
    (sym (given_of c.self.inside.begun c.args.txn c.self.inside.next c.self.inside.«open».entries c.insert.new.self.entries c.kept_of.result c.self.invariant (subst (λ (v : Txns). lookup (nat_eq c.args.txn) v.open_txns ≡ Some c.kept_of.result) (sym c.self.view_is) c.kept_of.ensures) c.insert.result c.insert.ensures.entries c.insert.ensures.absent))
    (begun_given c.self.inside.begun c.args.txn c.self.inside.next c.self.inside.«open».entries c.self.invariant)

pub returns-clause-given : goal.returns-clause-given
returns-clause-given c =
    rw (← c.self.view_is)
    (ap (λ es. record { open_txns = es; begun = c.self.inside.begun; next = c.self.inside.next + 1 })
    (given_of c.self.inside.begun c.args.txn c.self.inside.next c.self.inside.«open».entries c.insert.new.self.entries c.kept_of.result c.self.invariant (subst (λ (v : Txns). lookup (nat_eq c.args.txn) v.open_txns ≡ Some c.kept_of.result) (sym c.self.view_is) c.kept_of.ensures) c.insert.result c.insert.ensures.entries c.insert.ensures.absent))
