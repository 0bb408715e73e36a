use Rattle.std.proofs.Common.{◌≡◌, arith}
use Rattle.std.proofs.lemmas.Bool.Decides.{nat_tests}
use Rattle.turn_rule.proofs.Steps.{took}
use Rattle.turn_rule.proofs.gate.Gate.try_take.Goals as goal

pub returns-clause-turn : goal.returns-clause-turn
returns-clause-turn g c =
    let free : c.enter-found.result ≡ 0 = grind (arith, nat_tests, c.if-found-ne0.false) in
    took g.E.Recorded.board c.enter-found.result _ _ _ _ free c.enter-found.ensures.turn c.take.ensures.engine c.take.ensures.rest
