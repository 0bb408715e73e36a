use Rattle.script_play.specs.Sessions.{StartsNothing}
use Rattle.script_play.proofs.playing.step_on.Given as goal

abbrev pub invariant-loop-turn : goal.invariant-loop-turn
invariant-loop-turn g l = StartsNothing (g.E.Sessions.shown l.fn.engine) (g.E.Sessions.shown l.engine)
