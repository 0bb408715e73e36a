use Rattle.std.proofs.Common.{◌≡◌, true, false}
use Rattle.std.specs.Prelude.{is_some}
use Rattle.inno_model.specs.Past.{level}
use Rattle.giving_up.proofs.Writing.{none_of}
use Rattle.giving_up.proofs.Nothing.{taken_fails}
use Rattle.read_statement.proofs.Selects.{rows_of_plain}
use Rattle.read_statement.proofs.Entries.{may_begin, stays_open, begun, rests, taken_still}
use Rattle.read_statement.proofs.Ending.{fails_with}
use Rattle.read_statement.proofs.opening.step_opening.Goals as goal

pub returns-then-is_some-clause-steps : goal.returns-then-is_some-clause-steps
returns-then-is_some-clause-steps g c =
    let is-open : is_some (level c.args.session c.args.lists.now.past) ≡ true = cc in
    stays_open c.args.session c.args.lists.now c.args.asked c.requires.running.0 is-open c.requires.running.1

pub begin-requires-clause-may : goal.begin-requires-clause-may
begin-requires-clause-may g c =
    let none : is_some (level c.args.session c.args.lists.now.past) ≡ false = cc in
    may_begin c.args.session c.args.lists.now.past c.args.asked c.requires.running.0 (none_of (level c.args.session c.args.lists.now.past) none)

pub returns-in-Ok-clause-steps : goal.returns-in-Ok-clause-steps
returns-in-Ok-clause-steps g c =
    let none : is_some (level c.args.session c.args.lists.now.past) ≡ false = cc in
    let closed = none_of (level c.args.session c.args.lists.now.past) none in
    begun c.args.session _ _ c.args.lists.now c.begin.new.self c.args.asked c.requires.running.0 closed (c.level.ensures.closed closed)
    c.requires.running.1 c.in-Ok.ensures.ok

pub returns-in-Err-clause-steps : goal.returns-in-Err-clause-steps
returns-in-Err-clause-steps g c =
    let opening = c.requires.running.0 in
    fails_with c.args.session c.args.lists.now c.begin.new.self false
    (rests c.args.session c.args.lists.now c.begin.new.self c.requires.running.1 c.in-Err.ensures.err)
    (taken_fails c.args.session c.args.asked.stmt c.args.lists.now.past (rows_of_plain c.args.asked.stmt opening.plain)
    (taken_still c.args.session c.args.lists.now.past c.args.asked opening))
