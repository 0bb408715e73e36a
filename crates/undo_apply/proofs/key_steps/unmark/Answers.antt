use Rattle.std.proofs.Common.{None}
use Rattle.row_changes.proofs.Awaited.{awaits_at, replace_with_here}
use Rattle.undo_apply.proofs.Goes.{unmark_step, unmark_unwritten}
use Rattle.undo_apply.proofs.Widths.{unmarked_len}
use Rattle.undo_apply.proofs.key_steps.unmark.Goals as goal

pub replace-answer-requires-clause-value_len : goal.replace-answer-requires-clause-value_len
replace-answer-requires-clause-value_len g c = unmarked_len c.requires.under_way.3 c.args.which c.requires.stage _ c.entries_of.ensures

pub returns-clause-puts : goal.returns-clause-puts
returns-clause-puts g c = λ chains beside place is.
    unmark_step c.args.actor is c.args.which c.requires.stage c.write_entry.new.entries c.write_entry.result (rw c.as_slice.ensures at c.write_entry.ensures)
    (g.W.World.state c.replace-answer.new.self) c.replace-answer.result (rw (c.entries_of.ensures, c.entry.ensures) at c.replace-answer.ensures)
    c.go_on.new.room c.go_on.result c.go_on.ensures

pub returns-then-not-write_entry-clause-puts : goal.returns-then-not-write_entry-clause-puts
returns-then-not-write_entry-clause-puts g c = λ chains beside place is.
    unmark_unwritten c.args.actor is c.args.which c.requires.stage c.write_entry.new.entries c.write_entry.result
    (rw c.as_slice.ensures at c.write_entry.ensures) c.if-not-write_entry.true

pub returns-clause-awaits : goal.returns-clause-awaits
returns-clause-awaits g c =
    awaits_at _ _ _ _ c.replace-answer.ensures.index_is
    (replace_with_here None c.args.actor c.entry.result.now c.args.room.now.unmarked _ _ c.replace-answer.result c.replace-answer.ensures.index_is.here)
