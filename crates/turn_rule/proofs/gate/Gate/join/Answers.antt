use Rattle.std.proofs.Common.{rules}
use Rattle.turn_rule.proofs.Steps.{may_join}
use Rattle.turn_rule.proofs.gate.Gate.join.Goals as goal

pub join_seat-requires : goal.join_seat-requires
join_seat-requires g c =
    let i = c.requires.idle.1 in
    (search rules, search rules, i.slot, search rules, may_join g.E.Recorded.board _ _ _ _ _ _ i)
