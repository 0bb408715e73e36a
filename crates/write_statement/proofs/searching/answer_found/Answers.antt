use Rattle.std.proofs.Common.{arith}
use Rattle.write_statement.proofs.Found.{found_enough}
use Rattle.write_statement.proofs.searching.answer_found.Goals as goal

pub answer-requires-clause-enough : goal.answer-requires-clause-enough
answer-requires-clause-enough g c =
    found_enough c.args.lists.now c.args.session c.args.part c.args.rows c.requires.found c.history.ensures.tables c.history.ensures.sound
    c.history.ensures.ordered c.history.ensures.fits

pub returns-clause-nears : goal.returns-clause-nears
returns-clause-nears g c = c.answer.ensures.nears _ (omega arith)
