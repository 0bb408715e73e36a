use Rattle.std.proofs.Common.{arith}
use Rattle.std.proofs.lemmas.Grind.{common_steps}
use Rattle.undo_apply.proofs.Goes.{remove_record, replace_record, nexted_leaves, room_leaves}
use Rattle.undo_apply.proofs.Widths.{before_len}
use Rattle.undo_apply.proofs.record_steps.put_record.Goals as goal

pub replace-answer-requires-clause-index : goal.replace-answer-requires-clause-index
replace-answer-requires-clause-index g c =
    let is = c.requires.under_way.3 in
    let table = c.args.undo.now.table in
    rw c.records_of-2.ensures
    (record { table = table; which = 0; number = omega arith; schema = is.schema; there = is.tells.there; key = omega arith; few = omega arith })

pub replace-answer-requires-clause-value_len : goal.replace-answer-requires-clause-value_len
replace-answer-requires-clause-value_len g c = before_len c.requires.under_way.3 c.if-undo.false _ c.records_of-2.ensures

pub returns-then-undo-clause-puts : goal.returns-then-undo-clause-puts
returns-then-undo-clause-puts g c = λ chains beside place is.
    let room = c.args.room.now in
    let read = c.remove_pair-answer.new.next in
    remove_record c.args.actor is c.requires.stage (record room { next = read })
    (nexted_leaves c.args.actor is room.entries read c.remove_pair-answer.ensures.room) (g.W.World.state c.remove_pair-answer.new.world) c.if-undo.true
    c.remove_pair-answer.result (rw c.records_of.ensures at c.remove_pair-answer.ensures.removes) c.end.new.room c.end.result c.end.ensures

pub returns-clause-puts : goal.returns-clause-puts
returns-clause-puts g c = λ chains beside place is.
    replace_record c.args.actor is c.requires.stage c.args.room.now (room_leaves c.args.actor is) (g.W.World.state c.replace-answer.new.self) c.if-undo.false
    c.replace-answer.result (rw c.records_of-2.ensures at c.replace-answer.ensures) c.end-2.new.room c.end-2.result c.end-2.ensures

pub remove_pair-answer-requires-clause-holds : goal.remove_pair-answer-requires-clause-holds
remove_pair-answer-requires-clause-holds g c = grind (arith, common_steps)

pub remove_pair-answer-requires-clause-index : goal.remove_pair-answer-requires-clause-index
remove_pair-answer-requires-clause-index g c =
    let is = c.requires.under_way.3 in
    let table = c.args.undo.now.table in
    rw c.records_of.ensures
    (record { table = table; which = 0; number = omega arith; schema = is.schema; there = is.tells.there; key = omega arith; few = omega arith })
