use Rattle.std.proofs.Common.{arith}
use Rattle.session_engine.proofs.Leaving.{rolls_back_goes}
use Rattle.session_engine.proofs.steps.go_out.Goals as goal

pub returns-clause-goes : goal.returns-clause-goes
returns-clause-goes g c =
    rolls_back_goes c.args.s c.args.lists.now c.roll_back.new.self c.requires.goes_out
    (omega (arith, c.change_count.ensures, c.if-change_count-gt0.false))
    c.roll_back.ensures
