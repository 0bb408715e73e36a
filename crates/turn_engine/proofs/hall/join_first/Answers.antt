use Rattle.turn_engine.proofs.Joining.{first_joined}
use Rattle.turn_engine.proofs.hall.join_first.Goals as goal

pub returns-clause-no_calls : goal.returns-clause-no_calls
returns-clause-no_calls g c = first_joined _ _ _ _ _ c.requires.no_calls c.join.ensures.ok c.join.ensures.err
