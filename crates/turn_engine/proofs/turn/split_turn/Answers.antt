use Rattle.std.proofs.Common.{arith}
use Rattle.std.proofs.lemmas.Grind.{common_steps}
use Rattle.std.proofs.Common.{◌∙◌}
use Rattle.turn_engine.proofs.Joining.{split_joined, split_given, join_refused}
use Rattle.turn_engine.proofs.turn.split_turn.Goals as goal

pub returns-in-Ok-clause-given : goal.returns-in-Ok-clause-given
returns-in-Ok-clause-given g c =
    let r =
    split_given g.E.Recorded.board c.args.name.now _ _ _ _ _ _ _ _ _ _ c.requires.rests c.take_turn-engine.ensures.turn c.in-Ok.ensures.ok
    c.in-Ok.ensures.number c.put.ensures.rest c.publish.ensures.seen c.split-other.ensures.gate.2 c.depart.ensures.rest c.split-other.ensures.given.1 in
    (c.split-other.ensures.given.0 ∙ (c.publish.ensures.gate.0 ∙ (c.put.ensures.gate.0 ∙ c.take_turn-engine.ensures.gate.0)), r.0, r.1)

pub returns-in-Ok-clause-ok : goal.returns-in-Ok-clause-ok
returns-in-Ok-clause-ok g c =
    split_joined g.E.Recorded.board c.args.name.now _ _ _ _ _ _ _ _ _ c.requires.rests c.take_turn-engine.ensures.turn c.in-Ok.ensures.ok
    c.in-Ok.ensures.number c.put.ensures.rest c.publish.ensures.seen c.split-other.ensures.gate.2 c.depart.ensures.rest

pub returns-in-Err-clause-err : goal.returns-in-Err-clause-err
returns-in-Err-clause-err g c =
    join_refused g.E.Recorded.board _ _ _ _ _ c.requires.rests c.take_turn-engine.ensures.turn c.hand_back.ensures.seen c.in-Err.ensures.err

pub publish-requires-clause-holds : goal.publish-requires-clause-holds
publish-requires-clause-holds g c = grind (arith, common_steps) steps 2000000

pub split-other-requires-clause-holds : goal.split-other-requires-clause-holds
split-other-requires-clause-holds g c = grind (arith, common_steps) steps 2000000

pub depart-requires-clause-holds : goal.depart-requires-clause-holds
depart-requires-clause-holds g c = grind (arith, common_steps) steps 2000000

pub returns-in-Ok-clause-rests : goal.returns-in-Ok-clause-rests
returns-in-Ok-clause-rests g c = grind (arith, common_steps) steps 2000000
