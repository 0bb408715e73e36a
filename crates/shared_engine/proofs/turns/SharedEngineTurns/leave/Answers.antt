use Rattle.std.proofs.Common.{◌≡◌, [], subst, sym}
use Rattle.inno_model.specs.declared.board.Phase.TheVariants.{Idle, Leaving}
use Rattle.inno_model.specs.Boards.{phase_of}
use Rattle.turn_engine.specs.Calls.{Makes}
use Rattle.shared_engine.specs.Shown.{board_of}
use Rattle.shared_engine.proofs.Shown.{idle_inside}
use Rattle.shared_engine.proofs.Turning.{leaves}
use Rattle.shared_engine.proofs.turns.SharedEngineTurns.leave.Goals as goal

pub leave-requires-clause-idle : goal.leave-requires-clause-idle
leave-requires-clause-idle g c =
    idle_inside c.self.inside.engine c.args.s (subst (λ a. phase_of (board_of a) c.args.s ≡ Idle) (sym c.self.view_is) c.requires.idle)

pub returns : goal.returns
returns g c =
    let idle = idle_inside c.self.inside.engine c.args.s (subst (λ a. phase_of (board_of a) c.args.s ≡ Idle) (sym c.self.view_is) c.requires.idle) in
    subst (λ a. Makes c.args.s (board_of a) (board_of c.leave.new.self) [] Leaving) c.self.view_is
    (leaves c.args.s c.self.inside.engine c.leave.new.self c.self.invariant idle c.leave.ensures)
