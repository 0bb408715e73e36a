use Rattle.std.proofs.Common.{◌≡◌, Option, ap, subst, ◌∙◌}
use Rattle.std.specs.Prelude.{IfOk}
use Rattle.inno_types.specs.declared.value.Schema.{Schema}
use Rattle.inno_db.specs.Declarations.{declared_by}
use Rattle.sql_values.proofs.Declaring.{declared_by-one}
use Rattle.sql_values.proofs.declaration.declare.Goals as goal

pub returns-in-len1 : goal.returns-in-len1
returns-in-len1 c =
    let table = c.args.table.now in
    let definitions = c.args.definitions.now in
    let only = declared_by-one table definitions c.as_slice.result.now c.primary-item.result c.in-len1.len_at_least c.in-len1.len_below c.primary-item.is in
    let same = only ∙ ap (declared_by table definitions) (c.as_slice.ensures ∙ c.in_ok-primaries.ensures) in
    subst (λ (declared : Option Schema). IfOk c.schema_with.result (λ schema. schema ≡ declared)) same c.schema_with.ensures
