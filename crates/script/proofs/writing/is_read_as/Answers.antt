use Rattle.script.proofs.Same.{read_as}
use Rattle.script.proofs.writing.is_read_as.Goals as goal

pub returns-in-Ok-clause-same : goal.returns-in-Ok-clause-same
returns-in-Ok-clause-same c = read_as c.args.allowed c.args.bytes.now c.in-Ok.read c.args.script.now c.is_same-is_same.result c.in-Ok.ensures.spells c.is_same-is_same.ensures
