use Rattle.std.proofs.Common.{◌≡◌, true, Some, refl}
use Rattle.std.specs.Prelude.{is_some}
use Rattle.inno_types.specs.declared.lock.Level.TheVariants.{RepeatableRead}
use Rattle.inno_model.specs.Past.{level, view_of}
use Rattle.sql_lists.proofs.Moving.{moves_none, stays_none}
use Rattle.read_statement.proofs.Entries.{has_view, rests}
use Rattle.read_statement.proofs.Ending.{fails}
use Rattle.read_statement.proofs.opening.step_open.Goals as goal

pub returns-then-has_view-clause-steps : goal.returns-then-has_view-clause-steps
returns-then-has_view-clause-steps g c =
    let r = c.requires.running in
    let is : level c.args.session c.args.lists.now.past ≡ Some RepeatableRead = cc in
    let some : is_some (view_of c.args.session c.args.lists.now.past) ≡ true = cc in
    (moves_none c.args.session c.args.lists.now, (r.0, r.1, has_view c.args.session c.args.lists.now.past is some, r.3), refl)

pub returns-in-Some-Serializable-clause-steps : goal.returns-in-Some-Serializable-clause-steps
returns-in-Some-Serializable-clause-steps g c =
    let r = c.requires.running in
    fails c.args.session c.args.lists.now c.args.lists.now c.args.stmt c.args.alone
    (rests c.args.session c.args.lists.now c.args.lists.now r.3 (stays_none c.args.session c.args.lists.now)) r.0 r.1
