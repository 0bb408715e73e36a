use Rattle.std.proofs.Common.{◌<◌, length, subst, sym}
use Rattle.inno_model.specs.Boards.{phase_of}
use Rattle.turn_engine.specs.Calls.{StepsBy, IsUnderWay, reply_of}
use Rattle.shared_engine.specs.Shown.{board_of}
use Rattle.shared_engine.proofs.Shown.{working_inside}
use Rattle.shared_engine.proofs.Turning.{steps}
use Rattle.shared_engine.proofs.Resting.{stepped_rests}
use Rattle.shared_engine.proofs.turns.SharedEngineTurns.step.Goals as goal

pub step_of-progress-requires-clause-working : goal.step_of-progress-requires-clause-working
step_of-progress-requires-clause-working g c =
    working_inside c.self.inside.engine c.args.s (subst (λ a. IsUnderWay (phase_of (board_of a) c.args.s)) (sym c.self.view_is) c.requires.under_way)

pub invariant_of-self : goal.invariant_of-self
invariant_of-self g c =
    let way = subst (λ a. IsUnderWay (phase_of (board_of a) c.args.s)) (sym c.self.view_is) c.requires.under_way in
    let joined = subst (λ a. c.args.s < length a.names) (sym c.self.view_is) c.requires.joined in
    stepped_rests c.args.s c.step_of-progress.result c.self.inside.engine c.step_of-progress.new.engine c.self.invariant joined
    (working_inside c.self.inside.engine c.args.s way) c.step_of-progress.ensures.steps

pub returns : goal.returns
returns g c =
    let way = subst (λ a. IsUnderWay (phase_of (board_of a) c.args.s)) (sym c.self.view_is) c.requires.under_way in
    subst (λ a. StepsBy c.args.s (board_of a) (phase_of (board_of a) c.args.s) (reply_of c.step_of-progress.result) (board_of c.step_of-progress.new.engine))
    c.self.view_is
    (steps c.args.s c.step_of-progress.result c.self.inside.engine c.step_of-progress.new.engine way c.step_of-progress.ensures.steps c.agree.ensures.gone
    c.agree.ensures.legal)
