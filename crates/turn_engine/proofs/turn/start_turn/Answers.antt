use Rattle.std.proofs.Common.{arith}
use Rattle.std.proofs.lemmas.Grind.{common_steps}
use Rattle.turn_engine.proofs.Going.{start_turned, start_refused}
use Rattle.turn_engine.proofs.turn.start_turn.Goals as goal

pub returns-clause-ok : goal.returns-clause-ok
returns-clause-ok g c =
    start_turned g.E.Recorded.board _ _ _ _ _ _ _ _ c.requires.rests c.take_turn-engine.ensures.turn c.hand_back.ensures.seen c.start-started.ensures.ok

pub returns-clause-err : goal.returns-clause-err
returns-clause-err g c =
    start_refused g.E.Recorded.board _ _ _ _ _ _ _ c.requires.rests c.take_turn-engine.ensures.turn c.hand_back.ensures.seen c.start-started.ensures.err

pub start-started-requires-clause-joined : goal.start-started-requires-clause-joined
start-started-requires-clause-joined g c = grind (arith, common_steps) steps 2000000

pub returns-clause-rests : goal.returns-clause-rests
returns-clause-rests g c = grind (arith, common_steps) steps 2000000
