use Rattle.std.proofs.Common.{◌∙◌, sym, ap}
use Rattle.inno_types.specs.declared.value.Column.{Column}
use Rattle.secondary.proofs.Standing.{kind_is}
use Rattle.secondary.proofs.fields.column_kind.Goals as goal

pub returns : goal.returns
returns c =
    let here = rw c.from.ensures at c.index-columns-from.is in
    rw c.from.ensures (ap (λ (x : Column). x.kind) (sym here) ∙ sym (kind_is c.args.columns.now c.args.place c.index-columns-from.result c.requires here))
