use Rattle.file_zero.proofs.Applied.{stays_keyed}
use Rattle.file_zero.proofs.database.apply_change.Goals as goal

pub returns-clause-keyed : goal.returns-clause-keyed
returns-clause-keyed c =
    stays_keyed c.args.db.now c.apply.new.self c.args.change (c.can_apply.ensures.0 c.if-not-can_apply.false) c.in_ok-apply.ensures.ok
