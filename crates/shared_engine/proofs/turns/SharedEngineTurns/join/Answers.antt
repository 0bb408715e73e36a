use Rattle.std.proofs.Common.{[], subst}
use Rattle.std.specs.Prelude.{OnOk, OnErr}
use Rattle.inno_model.specs.Boards.{phase_of}
use Rattle.turn_engine.specs.Calls.{Makes, Joins}
use Rattle.shared_engine.specs.Shown.{board_of}
use Rattle.shared_engine.proofs.Turning.{join_ok, join_err}
use Rattle.shared_engine.proofs.turns.SharedEngineTurns.join.Goals as goal

pub returns-clause-ok : goal.returns-clause-ok
returns-clause-ok g c =
    subst (λ a. OnOk c.join.result (Joins c.args.name.now (board_of a) (board_of c.join.new.self))) c.self.view_is
    (join_ok c.join.result c.args.name.now c.self.inside.engine c.join.new.self c.self.invariant c.join.ensures.ok)

pub returns-clause-err : goal.returns-clause-err
returns-clause-err g c =
    subst (λ a. OnErr c.join.result (Makes 0 (board_of a) (board_of c.join.new.self) [] (phase_of (board_of a) 0))) c.self.view_is
    (join_err c.join.result c.self.inside.engine c.join.new.self c.join.ensures.err)
