use Rattle.std.proofs.Common.{Option, sym, subst}
use Rattle.inno_db.specs.declared.change.Change.{Change}
use Rattle.shared_lists.specs.Tasks.{left_by}
use Rattle.shared_lists.specs.State.{Turns}
use Rattle.law_claims.specs.Claims.{Tables}
use Rattle.law_claims.proofs.Keeping.{keeper_writes}
use Rattle.write_statement.proofs.Entering.{making_given_up}
use Rattle.write_statement.proofs.making.stop_making.Goals as goal

pub stop_change-requires-clause-locked : goal.stop_change-requires-clause-locked
stop_change-requires-clause-locked g c =
    keeper_writes c.args.session Tables c.args.lists.now.past c.args.lists.now.writer (c.requires.running.changing.keeps Tables tt)

pub stop_change-requires-clause-asked : goal.stop_change-requires-clause-asked
stop_change-requires-clause-asked g c = (c.requires.running.change, c.requires.running.asked_is)

pub returns-clause-steps : goal.returns-clause-steps
returns-clause-steps g c =
    let s = c.args.session in
    let old = c.args.lists.now in
    let new = c.stop_change.new.self in
    making_given_up s old new c.args.part c.args.todo.items c.args._rows c.give_up.result.0 c.give_up.result.1 c.requires.running
    (subst (λ (o : Option Change). Turns s (left_by o) old new) (sym c.requires.running.asked_is) c.stop_change.ensures.stops) c.give_up.ensures.state
    c.give_up.ensures.answer
