use Rattle.std.proofs.Common.{◌≡◌, vec_len}
use Rattle.std.specs.List.{AllByRecursion}
use Rattle.turn_rule.specs.Steps.{IsAtRest}
use Rattle.turn_engine.specs.Sessions.{Sitting, gathered}
use Rattle.turn_engine.proofs.hall.absorb.Given as goal

-- what the seat comes to with the receipts that are left is what it comes to with all
abbrev pub invariant-loop-receipts : goal.invariant-loop-receipts
invariant-loop-receipts g l =
    (l.pass.table_id ≡ l.initial.pass.table_id)
    × IsAtRest l.pass.me l.pass.me.0.mine.number
    × (gathered l.pass.me.0 l.receipts.items ≡ gathered l.initial.pass.me.0 l.initial.receipts.items)
    × AllByRecursion (λ (r : Sitting). r.hall ≡ l.gate) l.receipts.items

abbrev pub decreases-loop-receipts : goal.decreases-loop-receipts
decreases-loop-receipts g l = vec_len l.receipts
