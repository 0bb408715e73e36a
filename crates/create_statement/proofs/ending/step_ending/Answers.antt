use Rattle.create_statement.proofs.Moving.{finished}
use Rattle.create_statement.proofs.ending.step_ending.Goals as goal

pub finish-requires-clause-finished : goal.finish-requires-clause-finished
finish-requires-clause-finished g c = finished c.args.session c.args.lists.now c.args.lists.now c.args.stmt c.requires.running
