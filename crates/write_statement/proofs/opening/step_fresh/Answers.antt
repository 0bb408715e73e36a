use Rattle.std.proofs.Common.{refl, sym}
use Rattle.sql_lists.proofs.Moving.{moves_none}
use Rattle.giving_up.proofs.Writing.{closed_as_told, open_as_told}
use Rattle.write_statement.proofs.Joining.{joined}
use Rattle.write_statement.proofs.opening.step_fresh.Goals as goal

pub returns-then-is_some-clause-steps : goal.returns-then-is_some-clause-steps
returns-then-is_some-clause-steps g c =
    let is-open = open_as_told c.args.session c.args.lists.now.past c.level.result c.level.ensures.level (sym c.if-is_some.ensures) in (
      moves_none c.args.session c.args.lists.now,
      (joined c.args.session c.args.stmt c.args.lists.now.past c.requires.running.1 c.requires.running.0 c.requires.running.3 is-open, c.requires.running.2),
      refl,
    )

pub open-requires-clause-closed : goal.open-requires-clause-closed
open-requires-clause-closed g c = closed_as_told c.args.session c.args.lists.now.past c.level.result c.level.ensures.level (sym c.if-is_some.ensures)

pub open-requires-clause-none : goal.open-requires-clause-none
open-requires-clause-none g c =
    c.level.ensures.closed (closed_as_told c.args.session c.args.lists.now.past c.level.result c.level.ensures.level (sym c.if-is_some.ensures))
