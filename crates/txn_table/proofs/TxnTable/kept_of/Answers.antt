use Rattle.std.proofs.Common.{nat_eq, ap, sym, subst, ◌∙◌}
use Rattle.std.specs.Prelude.{is_some}
use Rattle.std.specs.Option.{option_copied}
use Rattle.std.proofs.lemmas.Bool.{false≢true}
use Rattle.std.specs.Map.{lookup}
use Rattle.txn_table.specs.Txns.{Txns, is_there}
use Rattle.txn_table.proofs.Open.{found}
use Rattle.txn_table.proofs.TxnTable.kept_of.Goals as goal

pub unreachable-requires : goal.unreachable-requires
unreachable-requires c =
    let there = found c.args.txn c.self.inside.«open».entries (subst (λ (v : Txns). is_there c.args.txn v.open_txns) (sym c.self.view_is) c.requires) in
    false≢true (sym (ap (λ o. is_some (option_copied o)) c.in-None.is) ∙ (ap is_some c.get.ensures.value ∙ there))
