use Rattle.std.proofs.Common.{◌≡◌, ℕ}
use Rattle.std.specs.Prelude.{◌==◌, not, filter, map}
use Rattle.txn_table.specs.declared.OpenTxn.{OpenTxn}
use denote.Bor.{Bor}
use Rattle.txn_table.proofs.TxnTable.active.Given as goal

abbrev pub invariant-loop-txn : goal.invariant-loop-txn
invariant-loop-txn l = l.ids.items ≡ filter (λ (id : ℕ). not (id == 0)) (map (λ (txn : Bor OpenTxn). txn.now.id) l.yielded)
