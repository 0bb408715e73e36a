use Rattle.turn_engine.proofs.Going.{where_ok, called}
use Rattle.turn_engine.proofs.session.call.Goals as goal

pub returns-clause-some : goal.returns-clause-some
returns-clause-some g c = called _ _ _ _ _ _ (where_ok c.start_turn.result c.if-is_err.ensures.negation c.start_turn.ensures.ok) c.answer.ensures.went
