use Rattle.std.proofs.Common.{◌≡◌, Some, None, List, sym, subst}
use Rattle.inno_types.specs.declared.value.Schema.{Schema}
use Rattle.inno_db.specs.Refusals.{refusal}
use Rattle.inno_db.specs.Outcome.{table_read}
use Rattle.read_statement.proofs.Searched.{seen_outcome}
use Rattle.read_statement.proofs.answering.outcome_by.Goals as goal

pub plain_on_rows-requires-clause-unrefused : goal.plain_on_rows-requires-clause-unrefused
plain_on_rows-requires-clause-unrefused g c =
    rw c.get.ensures (subst (λ (l : List Schema). refusal l c.args.found.now.stmt ≡ None) (sym c.schemas.ensures.are) c.requires.found.early.unrefused)

pub plain_on_rows-requires-clause-table_is : goal.plain_on_rows-requires-clause-table_is
plain_on_rows-requires-clause-table_is g c =
    rw c.get.ensures
    (subst (λ (l : List Schema). table_read l c.args.found.now.stmt ≡ Some c.args.found.now.table) (sym c.schemas.ensures.are) c.requires.found.planned.table_is)

pub returns : goal.returns
returns g c =
    seen_outcome c.args.lists.now.past c.args.session c.schemas.ensures.tables c.args.found.now c.requires.found
    c.schemas.ensures.sound c.schemas.ensures.fits c.schemas.result.now c.schemas.ensures.are c.plain_on_rows.result
    (rw c.get.ensures at c.plain_on_rows.ensures)
