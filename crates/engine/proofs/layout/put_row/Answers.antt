use Rattle.std.proofs.Common.{◌∙◌, ap, subst, Err, All}
use Rattle.std.specs.FinMap.{entries}
use Rattle.key_codec.specs.Keys.{Has64Bits}
use Rattle.row_codec.specs.Rows.{IsRowOf}
use Rattle.inno_db.specs.Database.{Database}
use Rattle.engine.proofs.Grown.{fits_well, no_row, row_behind}
use Rattle.engine.proofs.layout.put_row.Goals as goal

pub put-requires : goal.put-requires
put-requires c =
    let is_row : IsRowOf c.args.schema.now.columns c.args.row.now =
    subst (λ columns. IsRowOf columns c.args.row.now) c.as_slice.ensures
    (subst (IsRowOf c.as_slice.result.now) c.as_slice-2.ensures (c.row_fits.ensures.fits.0 c.if-not-row_fits.false)) in
    let numbers : All Has64Bits c.args.row.now = subst (All Has64Bits) c.as_slice-2.ensures (c.row_fits.ensures.range c.if-not-row_fits.false) in
    record {
      fits = fits_well c.args.opening c.args.table c.args.schema.now c.args.row.now c.in-Ok.copy c.requires.there c.in-Ok.ensures c.requires.storable is_row
          numbers;
    }

pub unreachable-requires : goal.unreachable-requires
unreachable-requires c =
    c.put.ensures.there (c.in-Err-RowThere.is ∙ ap Err c.in-Err-RowThere.field-0-is)
    (no_row c.args.opening c.args.table c.args.schema.now c.args.row.now c.in-Ok.copy c.requires.there c.in-Ok.ensures c.requires.rising)

pub returns-in-Ok-put-clause-rows : goal.returns-in-Ok-put-clause-rows
returns-in-Ok-put-clause-rows c =
    ap (λ (d : Database). entries d.rows) c.in-Ok-put.ensures.ok
    ∙ row_behind c.args.opening c.args.table c.args.schema.now c.args.row.now c.in-Ok.copy c.requires.there c.in-Ok.ensures c.requires.rising
