use Rattle.std.proofs.Common.{◌∙◌, ap, sym, subst, [], List, get_or}
use Rattle.std.proofs.lemmas.Option.{get_or_from_slice_get}
use Rattle.inno_types.specs.declared.value.Schema.{Schema}
use Rattle.inno_db.specs.Keeping.{AreRising, without_key}
use Rattle.inno_db.proofs.Kept.{put_back}
use Rattle.inno_db.proofs.Rising.{table_rises}
use Rattle.inno_db.proofs.db.remove.Goals as goal

pub returns : goal.returns
returns c = λ schema is.
    let tables = c.args.tables.now.items in
    let table = c.args.table in
    let found = c.index-as_slice-table.is ∙ ap (λ (l : List Schema). get_or l table c.index-as_slice-table.result) c.as_slice.ensures ∙ get_or_from_slice_get c.args.schemas.now table schema c.index-as_slice-table.result is in
    put_back tables c.take_rows-rows.new.tables.items table _ c.remove_row.new.rows.items c.from_vec.result c.take_rows-rows.ensures.left
    (c.remove_row.ensures ∙ ap (λ (s : Schema). without_key s c.args.key c.take_rows-rows.result.items) found ∙ ap (without_key schema c.args.key) c.take_rows-rows.ensures.rows)
    c.from_vec.ensures

pub remove_row-requires : goal.remove_row-requires
remove_row-requires c =
    let table = c.args.table in
    let schema = c.index-as_slice-table.result in
    let schema_is = c.index-as_slice-table.is ∙ ap (λ (l : List Schema). get_or l table schema) c.as_slice.ensures in
    let rises = table_rises c.args.schemas.now c.args.tables.now.items table schema c.requires.in_order c.requires.there in
    record {
      rising = subst (λ (s : Schema). AreRising s c.take_rows-rows.result.items) (sym schema_is)
          (subst (AreRising (get_or c.args.schemas.now table schema)) (sym c.take_rows-rows.ensures.rows) rises);
    }
