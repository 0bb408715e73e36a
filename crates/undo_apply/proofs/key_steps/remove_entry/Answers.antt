use Rattle.std.proofs.Common.{arith}
use Rattle.std.proofs.lemmas.Grind.{common_steps}
use Rattle.undo_apply.proofs.Goes.{remove_step, remove_unwritten, nexted_leaves}
use Rattle.undo_apply.proofs.key_steps.remove_entry.Goals as goal

pub returns-clause-puts : goal.returns-clause-puts
returns-clause-puts g c = λ chains beside place is.
    let read = c.remove_pair-answer.new.next in
    let mid = record c.args.room.now { entries = c.write_entry.new.entries; next = read } in
    remove_step c.args.actor is c.args.which c.requires.stage c.write_entry.new.entries c.write_entry.result
    (rw c.deref.ensures.value at c.write_entry.ensures) mid
    (nexted_leaves c.args.actor is c.write_entry.new.entries read c.remove_pair-answer.ensures.room) (g.W.World.state c.remove_pair-answer.new.world)
    c.remove_pair-answer.result (rw (c.entries_of.ensures, c.entry.ensures) at c.remove_pair-answer.ensures.removes) c.go_on_or_end.new.room
    c.go_on_or_end.result (rw c.after_entry.ensures at c.go_on_or_end.ensures)

pub returns-then-not-write_entry-clause-puts : goal.returns-then-not-write_entry-clause-puts
returns-then-not-write_entry-clause-puts g c = λ chains beside place is.
    remove_unwritten c.args.actor is c.args.which c.requires.stage c.write_entry.new.entries c.write_entry.result
    (rw c.deref.ensures.value at c.write_entry.ensures) c.if-not-write_entry.true

pub returns-then-not-write_entry-clause-awaits : goal.returns-then-not-write_entry-clause-awaits
returns-then-not-write_entry-clause-awaits g c = record { each = λ i by is. is }

pub remove_pair-answer-requires-clause-index : goal.remove_pair-answer-requires-clause-index
remove_pair-answer-requires-clause-index g c = grind (arith, common_steps)

pub remove_pair-answer-requires-clause-holds : goal.remove_pair-answer-requires-clause-holds
remove_pair-answer-requires-clause-holds g c = grind (arith, common_steps)
