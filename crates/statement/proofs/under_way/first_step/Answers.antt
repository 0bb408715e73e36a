use Rattle.std.proofs.Common.{refl}
use Rattle.sql_lists.proofs.Moving.{moves_none}
use Rattle.statement.proofs.under_way.first_step.Goals as goal

pub returns-in-Ok-Ready-clause-steps : goal.returns-in-Ok-Ready-clause-steps
returns-in-Ok-Ready-clause-steps g c = (moves_none c.args.session c.args.lists.now, c.begin.ensures.running, refl)

pub returns-in-Err-clause-steps : goal.returns-in-Err-clause-steps
returns-in-Err-clause-steps g c =
    let r = c.requires.running in (moves_none c.args.session c.args.lists.now, (r.0, r.1, r.3), refl)
