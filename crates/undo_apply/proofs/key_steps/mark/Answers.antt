use Rattle.undo_apply.proofs.Goes.{mark_step, mark_unwritten}
use Rattle.undo_apply.proofs.Widths.{marked_len}
use Rattle.undo_apply.proofs.key_steps.mark.Goals as goal

pub replace-answer-requires-clause-value_len : goal.replace-answer-requires-clause-value_len
replace-answer-requires-clause-value_len g c = marked_len c.requires.under_way.3 c.args.which c.requires.stage _ c.entries_of.ensures

pub returns-clause-puts : goal.returns-clause-puts
returns-clause-puts g c = λ chains beside place is.
    mark_step c.args.actor is c.args.which c.requires.stage c.write_entry.new.entries c.write_entry.result (rw c.deref.ensures.value at c.write_entry.ensures)
    (g.W.World.state c.replace-answer.new.self) c.replace-answer.result (rw (c.entries_of.ensures, c.entry.ensures) at c.replace-answer.ensures)
    c.go_on.new.room c.go_on.result (rw c.after_entry.ensures at c.go_on.ensures)

pub returns-then-not-write_entry-clause-puts : goal.returns-then-not-write_entry-clause-puts
returns-then-not-write_entry-clause-puts g c = λ chains beside place is.
    mark_unwritten c.args.actor is c.args.which c.requires.stage c.write_entry.new.entries c.write_entry.result
    (rw c.deref.ensures.value at c.write_entry.ensures) c.if-not-write_entry.true
