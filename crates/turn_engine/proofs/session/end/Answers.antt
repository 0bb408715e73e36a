use Rattle.std.proofs.Common.{◌∙◌}
use Rattle.turn_engine.proofs.Going.{has_gone, goes_on}
use Rattle.turn_engine.proofs.session.end.Goals as goal

pub returns-in-Over-clause-went : goal.returns-in-Over-clause-went
returns-in-Over-clause-went g c = has_gone _ _ _ _ _ _ c.in-Over.is c.loop.invariant.2 c.step_turn.ensures.went

pub loop-preserved : goal.loop-preserved
loop-preserved g c =
    let i = c.loop.invariant in
    let s = c.step_turn.ensures in
    (s.gate.0 ∙ i.0, s.rests, goes_on _ _ _ _ _ _ _ c.in-GoesOn.is i.2 s.went)
