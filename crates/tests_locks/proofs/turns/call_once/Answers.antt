use Rattle.tests_locks.proofs.Trials.{call_handed_back, call_is_own}
use Rattle.tests_locks.proofs.turns.call_once.Goals as goal

pub hand_back-requires-clause-turn : goal.hand_back-requires-clause-turn
hand_back-requires-clause-turn g c = call_handed_back c.args.number c.args.j _ _ _ _ _ _ c.requires.idle c.take_turn-scribe.ensures.turn c.call-called.ensures.ok c.call-called.ensures.err c.len-len.ensures

pub returns-clause-calls : goal.returns-clause-calls
returns-clause-calls g c = call_is_own c.args.number c.args.j _ _ _ _ _ _ c.requires.idle c.take_turn-scribe.ensures.turn c.call-called.ensures.ok c.hand_back.ensures.seen
