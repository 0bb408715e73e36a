use Rattle.std.proofs.Common.{◌≡◌, ◌+◌, ◌*◌, None, List, sym, subst, ap, ◌∙◌, arith}
use Rattle.inno_types.specs.declared.value.Schema.{Schema}
use Rattle.inno_db.specs.Refusals.{refusal}
use Rattle.inno_db.specs.Outcome.{table_read}
use Rattle.law_past_agreement.specs.Order.{created}
use Rattle.write_statement.specs.declared.machine.WriteStatement.TheVariants.{Locking}
use Rattle.write_statement.specs.Parts.{tuples_of}
use Rattle.write_statement.proofs.Moving.{nears_of}
use Rattle.write_statement.proofs.Found.{tables_now}
use Rattle.write_statement.proofs.PartByPart.{starts}
use Rattle.write_statement.proofs.Turning.{turns_none, early_given_up}
use Rattle.write_statement.proofs.opening.begin_search.Goals as goal

pub table_number-table-requires-clause-writes : goal.table_number-table-requires-clause-writes
table_number-table-requires-clause-writes g c = rw c.get.ensures c.requires.running.0.working.writes

pub table_number-table-requires-clause-unrefused : goal.table_number-table-requires-clause-unrefused
table_number-table-requires-clause-unrefused g c =
    rw c.get.ensures
    (subst (λ (schemas : List Schema). refusal schemas c.args.stmt ≡ None) (sym c.schemas.ensures.are) c.requires.running.0.unrefused)

pub search_part-requires-clause-changing : goal.search_part-requires-clause-changing
search_part-requires-clause-changing g c =
    starts c.args.lists.now.past c.args.lists.now.writer c.args.session c.args.stmt c.table_number-table.result c.args.alone c.change_count-before.result
    c.in-Ok.part c.requires.running.0 c.requires.right c.change_count-before.ensures
    (tables_now c.args.lists.now.past c.args.session c.schemas.ensures.tables)
    (ap (λ schemas. table_read schemas c.args.stmt) (sym c.schemas.ensures.are) ∙ (rw c.get.ensures at c.table_number-table.ensures))
    (c.in-Ok.ensures (created c.args.lists.now.past) c.requires.running.0.unrefused)

pub returns-in-Ok-clause-nears : goal.returns-in-Ok-clause-nears
returns-in-Ok-clause-nears g c =
    nears_of c.args.session c.args.lists.now (Locking c.args.stmt c.args.alone) c.search_part.new.lists c.search_part.result.0 c.search_part.result.1
    (c.search_part.ensures.nears (6 + 2 * tuples_of c.args.stmt)
    (omega (arith, (c.in-Ok.ensures (created c.args.lists.now.past) c.requires.running.0.unrefused).fewer)) _ _ _)

pub returns-in-Err-clause-steps : goal.returns-in-Err-clause-steps
returns-in-Err-clause-steps g c =
    early_given_up c.args.session c.args.lists.now c.args.lists.now c.args.stmt c.args.alone c.change_count-before.result c.give_up_at.result.0
    c.give_up_at.result.1 c.requires.running.0 c.change_count-before.ensures
    (turns_none c.args.session c.args.lists.now c.requires.running.1) c.give_up_at.ensures.state c.give_up_at.ensures.answer
