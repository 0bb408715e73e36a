use Rattle.std.proofs.Common.{◌≡◌, [], ◌∷◌, subst, sym}
use Rattle.std.specs.Prelude.{OnOk, OnErr}
use Rattle.inno_model.specs.declared.event.Event.TheVariants.{Started}
use Rattle.inno_model.specs.declared.board.Phase.TheVariants.{Idle, Busy}
use Rattle.inno_model.specs.Boards.{phase_of}
use Rattle.turn_engine.specs.Calls.{Makes, item_number}
use Rattle.shared_engine.specs.Shown.{board_of}
use Rattle.shared_engine.proofs.Shown.{idle_inside}
use Rattle.shared_engine.proofs.Turning.{start_ok, start_err}
use Rattle.shared_engine.proofs.turns.SharedEngineTurns.start.Goals as goal

pub start-requires-clause-idle : goal.start-requires-clause-idle
start-requires-clause-idle g c =
    idle_inside c.self.inside.engine c.args.s (subst (λ a. phase_of (board_of a) c.args.s ≡ Idle) (sym c.self.view_is) c.requires.idle)

pub returns-clause-ok : goal.returns-clause-ok
returns-clause-ok g c =
    subst (λ a. OnOk c.start.result
    (Makes c.args.s (board_of a) (board_of c.start.new.self) (Started c.args.s (item_number c.args.s (board_of a)) c.args.item.now ∷ []) Busy)) c.self.view_is
    (start_ok c.start.result c.args.s c.args.item.now c.self.inside.engine c.start.new.self c.start.ensures.ok)

pub returns-clause-err : goal.returns-clause-err
returns-clause-err g c =
    subst (λ a. OnErr c.start.result (Makes c.args.s (board_of a) (board_of c.start.new.self) [] Idle)) c.self.view_is
    (start_err c.start.result c.args.s c.self.inside.engine c.start.new.self
    (subst (λ a. phase_of (board_of a) c.args.s ≡ Idle) (sym c.self.view_is) c.requires.idle) c.start.ensures.err)
