use Rattle.engine.proofs.Taking.{row_for}
use Rattle.engine.proofs.keys.record_of.Goals as goal

pub returns-clause-key : goal.returns-clause-key
returns-clause-key c = row_for c.args.schema.now c.args.row.now _ c.requires.fits c.requires.numbers c.in_ok-key.ensures
