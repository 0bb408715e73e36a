use Rattle.std.proofs.Common.{◌≡◌, [], false, ap, sym, ◌∙◌, inl, inr}
use Rattle.inno_model.specs.Boards.{phase_of}
use Rattle.inno_model.specs.declared.board.Phase.TheVariants.{Leaving}
use Rattle.turn_engine.specs.Calls.{has_left, reply_of}
use Rattle.script_play.proofs.Leaving.{no_calls, made_on, still_leaving, leaves_on}
use Rattle.script_play.proofs.ThreadsSetUp.{extends_on}
use Rattle.script_play.proofs.on_threads.let_leave.Goals as goal

pub returns-then-left-clause-calls : goal.returns-then-left-clause-calls
returns-then-left-clause-calls g c = c.loop.invariant.calls

pub returns-then-lacked-clause-calls : goal.returns-then-lacked-clause-calls
returns-then-lacked-clause-calls g c =
    let i = c.loop.invariant in
    let before = g.E.Recorded.board c.loop.engine in
    let leaving = still_leaving before i.phase (sym c.left.ensures ∙ c.if-left.false) in
    let on = leaves_on before (g.E.Recorded.board c.step-progress.new.self) (reply_of c.step-progress.result) leaving c.step-progress.ensures in
    λ x. on.calls x ∙ i.calls x

pub returns-then-left-clause-extends : goal.returns-then-left-clause-extends
returns-then-left-clause-extends g c = c.loop.invariant.extends

pub returns-then-lacked-clause-extends : goal.returns-then-lacked-clause-extends
returns-then-lacked-clause-extends g c =
    let i = c.loop.invariant in
    let before = g.E.Recorded.board c.loop.engine in
    let leaving = still_leaving before i.phase (sym c.left.ensures ∙ c.if-left.false) in
    let on = leaves_on before (g.E.Recorded.board c.step-progress.new.self) (reply_of c.step-progress.result) leaving c.step-progress.ensures in
    extends_on (g.E.Recorded.board c.args.engine.now).past before.past (g.E.Recorded.board c.step-progress.new.self).past i.extends on.extends

pub returns-clause-extends : goal.returns-clause-extends
returns-clause-extends g c = c.loop.invariant.extends

pub returns-clause-calls : goal.returns-clause-calls
returns-clause-calls g c = c.loop.invariant.calls

pub loop-init : goal.loop-init
loop-init g c = record {
  names = c.leave.ensures.names;
  calls = no_calls (g.E.Recorded.board c.args.engine.now) (g.E.Recorded.board c.leave.new.self) Leaving c.leave.ensures;
  extends = made_on (g.E.Recorded.board c.args.engine.now) (g.E.Recorded.board c.leave.new.self) [] Leaving c.leave.ensures;
  phase = inl c.leave.ensures.phase_is;
}

pub loop-preserved : goal.loop-preserved
loop-preserved g c =
    let i = c.loop.invariant in
    let before = g.E.Recorded.board c.loop.engine in
    let leaving = still_leaving before i.phase (sym c.left.ensures ∙ c.if-left.false) in
    let on = leaves_on before (g.E.Recorded.board c.step-progress.new.self) (reply_of c.step-progress.result) leaving c.step-progress.ensures in
    record {
      names = on.names ∙ i.names;
      calls = λ x. on.calls x ∙ i.calls x;
      extends = extends_on (g.E.Recorded.board c.args.engine.now).past before.past (g.E.Recorded.board c.step-progress.new.self).past i.extends on.extends;
      phase = on.phase;
    }
