use Rattle.std.proofs.Common.{arith}
use Rattle.std.proofs.lemmas.Grind.{common_steps}
use Rattle.turn_engine.proofs.Going.{turned}
use Rattle.turn_engine.proofs.turn.leave_turn.Goals as goal

pub returns-clause-went : goal.returns-clause-went
returns-clause-went g c = turned g.E.Recorded.board _ _ _ _ _ _ _ _ c.requires.rests c.take_turn-engine.ensures.turn c.hand_back.ensures.seen c.leave.ensures

pub leave-requires-clause-joined : goal.leave-requires-clause-joined
leave-requires-clause-joined g c = grind (arith, common_steps) steps 2000000

pub returns-clause-rests : goal.returns-clause-rests
returns-clause-rests g c = grind (arith, common_steps) steps 2000000
