use Rattle.std.proofs.Common.{rules, ap, sym, ◌∙◌, ◌+◌}
use Rattle.turn_rule.proofs.Steps.{may_enter}
use Rattle.turn_rule.proofs.gate.Gate.enter.Goals as goal

pub compare_exchange-requires : goal.compare_exchange-requires
compare_exchange-requires g c =
    let i = c.requires.idle in
    (search rules, search rules, may_enter g.E.Recorded.board _ _ _ _ i.slot i.live (ap (λ n. n + 1) (c.from.ensures ∙ sym i.number_is)))
