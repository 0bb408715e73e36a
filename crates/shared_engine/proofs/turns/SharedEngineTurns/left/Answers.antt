use Rattle.std.proofs.Common.{◌≡◌, ◌∙◌, sym, subst}
use Rattle.inno_model.specs.Boards.{phase_of}
use Rattle.turn_engine.specs.Calls.{has_left}
use Rattle.shared_engine.specs.Shown.{board_of}
use Rattle.shared_engine.proofs.Shown.{left_inside}
use Rattle.shared_engine.proofs.turns.SharedEngineTurns.left.Goals as goal

pub returns : goal.returns
returns g c =
    subst (λ a. c.left.result ≡ has_left (phase_of (board_of a) c.args.s)) c.self.view_is
    (c.left.ensures.told ∙ sym (left_inside c.self.inside.engine c.args.s))
