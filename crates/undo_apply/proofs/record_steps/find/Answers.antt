use Rattle.std.proofs.Common.{arith}
use Rattle.std.proofs.lemmas.Grind.{common_steps}
use Rattle.std.proofs.Common.{◌≡◌, ◌∙◌, Some, sym}
use Rattle.std.proofs.lemmas.Bool.{true≢false}
use Rattle.undo_apply.specs.{Standing.was_before}
use Rattle.undo_apply.proofs.Goes.{find_again, find_none, find_on, find_stopped, not_done_test}
use Rattle.undo_apply.proofs.record_steps.find.Goals as goal

pub returns-then-is_version_before-clause-puts : goal.returns-then-is_version_before-clause-puts
returns-then-is_version_before-clause-puts g c = λ chains beside place is.
    find_again c.args.actor is c.requires.stage c.fetch.new.into c.fetch.ensures.room (g.W.World.state c.fetch.new.self)
    (rw c.records_of.ensures at c.in-Done.ensures.answer)
    (rw c.as_slice.ensures.value at (c.is_version_before.ensures.0 c.if-is_version_before.true))

pub returns-else-is_version_before-clause-puts : goal.returns-else-is_version_before-clause-puts
returns-else-is_version_before-clause-puts g c = λ chains beside place is.
    let differs =
    λ (same : Some c.fetch.new.into.items ≡ was_before c.args.undo.now). true≢false
    (sym (c.is_version_before.ensures.1 (rw c.as_slice.ensures.value same)) ∙ c.if-is_version_before.false) in
    rw (c.go_to.ensures.step, c.go_to.ensures.room) (find_on c.args.actor is c.requires.stage c.fetch.new.into c.fetch.ensures.room
    (g.W.World.state c.fetch.new.self) (rw c.records_of.ensures at c.in-Done.ensures.answer) differs)

pub returns-in-End-clause-puts : goal.returns-in-End-clause-puts
returns-in-End-clause-puts g c = λ chains beside place is.
    find_none c.args.actor is c.requires.stage c.fetch.new.into c.fetch.ensures.room (g.W.World.state c.fetch.new.self)
    (rw c.records_of.ensures at c.in-End.ensures.answer)

pub returns-in_default-clause-puts : goal.returns-in_default-clause-puts
returns-in_default-clause-puts g c = λ chains beside place is.
    find_stopped c.args.actor is c.requires.stage c.fetch.new.into c.fetch.ensures.room (g.W.World.state c.fetch.new.self) c.fetch.result
    (rw c.records_of.ensures at c.fetch.ensures.answer) (c.fetch.ensures.untouched (not_done_test c.fetch.result c.in_default.not-Done)) c.in_default.not-Done
    c.in_default.not-End

pub fetch-requires-clause-holds : goal.fetch-requires-clause-holds
fetch-requires-clause-holds g c = grind (arith, common_steps)

pub returns-then-is_version_before-clause-awaits : goal.returns-then-is_version_before-clause-awaits
returns-then-is_version_before-clause-awaits g c = grind (arith, common_steps)
