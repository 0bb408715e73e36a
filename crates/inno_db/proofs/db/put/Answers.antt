use Rattle.std.proofs.Common.{◌≡◌, ◌<◌, ◌∙◌, length, ap, sym, subst, arith, [], Some, List, get_or}
use Rattle.std.specs.Prelude.{slice_get}
use Rattle.std.proofs.lemmas.Option.{get_or_from_slice_get}
use Rattle.std.proofs.lemmas.Result.{on_ok_weaker, on_err_weaker}
use Rattle.inno_types.specs.declared.value.Schema.{Schema}
use Rattle.inno_db.specs.Keeping.{AreRising, with_row}
use Rattle.inno_db.proofs.Kept.{put_back, put_back_same}
use Rattle.inno_db.proofs.Rising.{table_rises}
use Rattle.inno_db.proofs.db.put.Goals as goal

pub returns-clause-ok : goal.returns-clause-ok
returns-clause-ok c =
    let tables = c.args.tables.now.items in
    let table = c.args.table in
    on_ok_weaker c.put_row-done.result
    (λ put (schema : Schema) (is : slice_get c.args.schemas.now table ≡ Some schema).
    let found = c.index-as_slice-table.is ∙ ap (λ (l : List Schema). get_or l table c.index-as_slice-table.result) c.as_slice.ensures ∙ get_or_from_slice_get c.args.schemas.now table schema c.index-as_slice-table.result is in
    put_back tables c.take_rows-rows.new.tables.items table _ c.put_row-done.new.rows.items c.from_vec.result c.take_rows-rows.ensures.left
    (put ∙ ap (λ (s : Schema). with_row s c.args.row c.take_rows-rows.result.items) found ∙ ap (with_row schema c.args.row) c.take_rows-rows.ensures.rows)
    c.from_vec.ensures) c.put_row-done.ensures.ok

pub returns-clause-err : goal.returns-clause-err
returns-clause-err c =
    let tables = c.args.tables.now.items in
    let within : c.args.table < length tables = omega (arith, c.requires.there, c.requires.in_order.as_many, c.args.tables.now.ok.0) in
    on_err_weaker c.put_row-done.result
    (λ same. put_back_same tables c.take_rows-rows.new.tables.items c.args.table c.take_rows-rows.result.items c.put_row-done.new.rows.items c.from_vec.result within c.take_rows-rows.ensures.left c.take_rows-rows.ensures.rows same c.from_vec.ensures)
    c.put_row-done.ensures.err

pub put_row-done-requires : goal.put_row-done-requires
put_row-done-requires c =
    let table = c.args.table in
    let schema = c.index-as_slice-table.result in
    let schema_is = c.index-as_slice-table.is ∙ ap (λ (l : List Schema). get_or l table schema) c.as_slice.ensures in
    let rises = table_rises c.args.schemas.now c.args.tables.now.items table schema c.requires.in_order c.requires.there in
    record {
      rising = subst (λ (s : Schema). AreRising s c.take_rows-rows.result.items) (sym schema_is)
          (subst (AreRising (get_or c.args.schemas.now table schema)) (sym c.take_rows-rows.ensures.rows) rises);
    }
