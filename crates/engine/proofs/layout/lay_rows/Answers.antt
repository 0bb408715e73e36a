use Rattle.std.proofs.Common.{◌≡◌, ◌≤◌, ◌∙◌, ap, sym, subst, refl, List, [], length, Some, Err, All, rules}
use Rattle.std.specs.Prelude.{slice_get}
use Rattle.std.specs.FinMap.{entries}
use Rattle.inno_types.specs.declared.value.Schema.{Schema}
use Rattle.inno_db.specs.Database.{Database}
use Rattle.inno_db.proofs.Tables.{entries-from_rising}
use Rattle.law_stored_rows.proofs.Rows.{rows_of-FitsTable}
use Rattle.law_stored_rows.specs.Fitting.{FitsTable}
use Rattle.engine.specs.declared.layout.LayBad.TheVariants.{Unfit}
use Rattle.engine.proofs.Below.{below_none, table_more, more_rise, whole}
use Rattle.engine.proofs.Grown.{table_there}
use Rattle.engine.proofs.layout.lay_rows.Goals as goal

pub loop-table-init : goal.loop-table-init
loop-table-init c = record {
  schemas = ap (λ (d : Database). d.schemas) c.requires.tables;
  rows = ap (λ (d : Database). entries d.rows) c.requires.tables ∙ entries-from_rising [] refl ∙ sym (below_none (entries c.args.db.now.rows));
}

pub put_rows-requires-clause-there : goal.put_rows-requires-clause-there
put_rows-requires-clause-there c =
    ap (λ schemas. slice_get schemas c.loop-table.table) c.loop-table.invariant.schemas
    ∙ table_there c.args.db.now.schemas c.as_slice-schema-items.result.now c.loop-table.table c.schema-item.result
    (c.as_slice-schema-items.ensures ∙ c.schemas.ensures.same) c.loop-table-test.true c.schema-item.is

pub put_rows-requires-clause-rising : goal.put_rows-requires-clause-rising
put_rows-requires-clause-rising c =
    more_rise c.args.db.now c.requires.keyed c.loop-table.table c.schema-item.result (entries c.loop-table.opening.rows) c.as_slice.result.now
    (table_there c.args.db.now.schemas c.as_slice-schema-items.result.now c.loop-table.table c.schema-item.result
    (c.as_slice-schema-items.ensures ∙ c.schemas.ensures.same) c.loop-table-test.true c.schema-item.is)
    c.loop-table.invariant.rows (c.as_slice.ensures ∙ c.rows.ensures)

pub returns-in_err-opening-clause-unfit : goal.returns-in_err-opening-clause-unfit
returns-in_err-opening-clause-unfit c = λ is fit.
    let refused : c.in_err-opening.field-0.0 ≡ Unfit = search rules in
    let schema = c.schema-item.result in
    let there : slice_get c.args.db.now.schemas c.loop-table.table ≡ Some schema =
    table_there c.args.db.now.schemas c.as_slice-schema-items.result.now c.loop-table.table schema
    (c.as_slice-schema-items.ensures ∙ c.schemas.ensures.same) c.loop-table-test.true c.schema-item.is in
    c.in_err-opening.ensures.unfit (ap Err refused)
    (subst (All (FitsTable schema)) (sym (c.as_slice.ensures ∙ c.rows.ensures))
    (rows_of-FitsTable c.args.db.now fit.fitting c.loop-table.table schema there))

pub loop-table-preserved : goal.loop-table-preserved
loop-table-preserved c = record {
  schemas = c.in_ok-opening.ensures.schemas ∙ c.loop-table.invariant.schemas;
  rows = c.in_ok-opening.ensures.rows
      ∙ table_more c.args.db.now c.requires.keyed c.loop-table.table c.schema-item.result (entries c.loop-table.opening.rows) c.as_slice.result.now
      (table_there c.args.db.now.schemas c.as_slice-schema-items.result.now c.loop-table.table c.schema-item.result
      (c.as_slice-schema-items.ensures ∙ c.schemas.ensures.same) c.loop-table-test.true c.schema-item.is)
      c.loop-table.invariant.rows (c.as_slice.ensures ∙ c.rows.ensures);
}

pub returns-clause-laid : goal.returns-clause-laid
returns-clause-laid c =
    let past : length c.args.db.now.schemas ≤ c.loop-table.table =
    subst (λ (l : List Schema). length l ≤ c.loop-table.table) (c.as_slice-schema-items.ensures ∙ c.schemas.ensures.same) c.loop-table-test.false in
    whole c.args.db.now c.requires.keyed c.loop-table.table c.loop-table.opening past c.loop-table.invariant.schemas
    c.loop-table.invariant.rows
