use Rattle.std.proofs.Common.{◌≡◌, None, List, [], subst, sym, ap, ◌∙◌, refl, inl}
use Rattle.inno_types.specs.declared.value.Schema.{Schema}
use Rattle.inno_db.specs.Refusals.{refusal}
use Rattle.inno_db.specs.Outcome.{table_read}
use Rattle.shared_lists.specs.Tasks.{Idle}
use Rattle.law_past_agreement.specs.Order.{created}
use Rattle.plain_sql.specs.Finding.{IsReadFrom}
use Rattle.write_statement.specs.Settling.{IsSettledBy}
use Rattle.write_statement.specs.Parts.{of_part, behind}
use Rattle.write_statement.proofs.PartByPart.{part_unrefused}
use Rattle.write_statement.proofs.Answered.{todo_then, refused_then}
use Rattle.write_statement.proofs.Turning.{turns_none, changing_given_up}
use Rattle.write_statement.proofs.answering.answer.Goals as goal

pub settle-requires-clause-unrefused : goal.settle-requires-clause-unrefused
settle-requires-clause-unrefused g c =
    let r = c.requires.changing in
    rw c.get.ensures
    (subst (λ (schemas : List Schema). refusal schemas c.args.part.stmt ≡ None)
    (sym c.schemas.ensures.are)
    (part_unrefused (created c.args.lists.now.past) c.args.part.stmt (behind c.args.part) r.cut))

pub settle-requires-clause-table_is : goal.settle-requires-clause-table_is
settle-requires-clause-table_is g c =
    rw c.get.ensures
    (ap (λ schemas. table_read schemas c.args.part.stmt) c.schemas.ensures.are
    ∙ c.requires.changing.table_is)

pub returns-in-Ok-Todo-clause-steps : goal.returns-in-Ok-Todo-clause-steps
returns-in-Ok-Todo-clause-steps g c =
    let enough = c.requires.enough in
    todo_then c.args.session c.args.lists.now c.args.part c.args.rows.now c.requires.changing c.requires.idle enough c.schemas.ensures.tables
    c.schemas.ensures.fits c.schemas.ensures.sound c.schemas.ensures.ordered c.in-Ok-Todo.todo
    (subst (IsSettledBy c.args.part.stmt enough.db) c.in-Ok-Todo.field-0-is
    (rw c.get.ensures at
    (c.in-Ok-Todo.ensures enough.db
    (rw c.get.ensures (subst (λ schemas. IsReadFrom schemas c.args.rows.now c.args.part.stmt enough.db) (sym c.schemas.ensures.are) enough.read)))))

pub returns-in-Ok-Refused-clause-steps : goal.returns-in-Ok-Refused-clause-steps
returns-in-Ok-Refused-clause-steps g c =
    let enough = c.requires.enough in
    refused_then c.args.session c.args.lists.now c.args.part c.args.rows.now c.requires.changing c.requires.idle enough c.schemas.ensures.tables
    c.schemas.ensures.fits c.schemas.ensures.sound c.schemas.ensures.ordered c.in-Ok-Refused.kept c.in-Ok-Refused.given c.refuse.result
    (subst (IsSettledBy c.args.part.stmt enough.db) c.in-Ok-Refused.field-0-is
    (rw c.get.ensures at
    (c.in-Ok-Refused.ensures enough.db
    (rw c.get.ensures (subst (λ schemas. IsReadFrom schemas c.args.rows.now c.args.part.stmt enough.db) (sym c.schemas.ensures.are) enough.read)))))
    c.refuse.ensures

pub returns-in-Err-clause-steps : goal.returns-in-Err-clause-steps
returns-in-Err-clause-steps g c =
    changing_given_up c.args.session c.args.lists.now c.args.lists.now Idle c.args.part (of_part c.args.part) [] c.give_up.result.0 c.give_up.result.1
    c.requires.changing (turns_none c.args.session c.args.lists.now c.requires.idle) (inl refl) c.give_up.ensures.state c.give_up.ensures.answer
