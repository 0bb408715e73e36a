use Rattle.std.proofs.Common.{◌≡◌, Some, None, List, sym, subst}
use Rattle.inno_types.specs.declared.value.Schema.{Schema}
use Rattle.inno_db.specs.Refusals.{refusal}
use Rattle.inno_db.specs.Outcome.{table_read}
use Rattle.read_statement.proofs.Unviewed.{newest_outcome}
use Rattle.read_statement.proofs.dirty.newest_outcome.Goals as goal

pub plain_on_rows-requires-clause-unrefused : goal.plain_on_rows-requires-clause-unrefused
plain_on_rows-requires-clause-unrefused g c =
    subst (λ (l : List Schema). refusal l c.args.stmt.now ≡ None) (sym c.schemas.ensures.are) c.requires.unrefused

pub plain_on_rows-requires-clause-table_is : goal.plain_on_rows-requires-clause-table_is
plain_on_rows-requires-clause-table_is g c =
    subst (λ (l : List Schema). table_read l c.args.stmt.now ≡ Some c.args.read.now.table) (sym c.schemas.ensures.are) c.requires.read.planned.table_is

pub returns : goal.returns
returns g c =
    newest_outcome c.args.lists.now.past c.only_writer-writer.result c.args.session c.args.stmt.now c.args.read.now.table c.args.read.now.rows
    c.only_writer-writer.ensures
    c.schemas.ensures.sound c.schemas.ensures.tables c.schemas.ensures.ordered c.schemas.ensures.fits c.requires.dirty c.requires.plain c.requires.read
    c.schemas.result.now c.schemas.ensures.are c.plain_on_rows.result c.plain_on_rows.ensures
