use Rattle.read_statement.proofs.Settling.{limited}
use Rattle.read_statement.proofs.answering.settle.Goals as goal

pub returns-in-Some-clause-answered : goal.returns-in-Some-clause-answered
returns-in-Some-clause-answered g c =
    let many = c.in-Some.ensures.many in
    limited c.args.lists.now.past c.args.session c.args.stmt.now c.args.alone c.requires.early c.requires.is_open c.args.given c.requires.seen c.in-Some.rows
    many.0 many.1
