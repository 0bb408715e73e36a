use Rattle.script_play.proofs.Making.{HasCalled}
use Rattle.script_play.proofs.session.make_calls.Given as goal

abbrev pub invariant-loop-item : goal.invariant-loop-item
invariant-loop-item g l = HasCalled l.hall l.initial.session l.items l.item-index l.session
