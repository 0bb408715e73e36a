use Rattle.std.proofs.Common.{arith}
use Rattle.std.proofs.lemmas.Grind.{common_steps}
use Rattle.turn_engine.proofs.Going.{step_turned}
use Rattle.turn_engine.proofs.turn.step_turn.Goals as goal

pub returns-clause-went : goal.returns-clause-went
returns-clause-went g c =
    step_turned g.E.Recorded.board _ _ _ _ _ _ _ _ c.requires.rests c.take_turn-engine.ensures.turn c.hand_back.ensures.seen c.timed_steps-progress.ensures
    c.after.ensures.reply

pub timed_steps-progress-requires-clause-joined : goal.timed_steps-progress-requires-clause-joined
timed_steps-progress-requires-clause-joined g c = grind (arith, common_steps) steps 2000000

pub returns-clause-rests : goal.returns-clause-rests
returns-clause-rests g c = grind (arith, common_steps) steps 2000000
