use Rattle.std.proofs.Common.{arith}
use Rattle.std.proofs.lemmas.Grind.{elements}
use Rattle.std.proofs.Common.{◌≡◌, ◌+◌, List, [], ◌∷◌, ◌++◌, length, take, drop, get_or, Err, Some, refl, sym, ap, ◌∙◌, append_assoc, rules}
use Rattle.std.specs.Prelude.{slice_get, All}
use Rattle.std.proofs.lemmas.Bool.{eqb-true, eqb-false}
use Rattle.std.proofs.lemmas.List.{nil_from_length}
use Rattle.std.proofs.lemmas.Option.{slice_get_read}
use Rattle.std.proofs.lemmas.List.Elements.{All-nil, All-push}
use Rattle.key_codec.specs.Keys.{Has64Bits}
use Rattle.inno_types.specs.declared.value.Column.{Column}
use Rattle.inno_types.specs.declared.value.Value.{Value}
use Rattle.row_codec.specs.declared.refused.RowBad.TheVariants.{Shape}
use Rattle.row_codec.proofs.Stored.{row_found, refused_before, refused_behind, nothing_left}
use Rattle.row_codec.proofs.read.row_of.Goals as goal

pub returns-in_err-rest-clause-shape : goal.returns-in_err-rest-clause-shape
returns-in_err-rest-clause-shape c = λ bad row is.
    let refused : c.in_err-rest.field-0.0 ≡ Shape = search rules in
    let schema = c.args.schema.now in
    let before : c.around.result.0.now ≡ take schema.primary schema.columns = c.around.ensures.before ∙
    ap (λ (l : List Column). take schema.primary l) c.as_slice-columns.ensures in
    refused_before schema c.around.result.0.now row c.args.key.now c.args.fields.now before (c.in_err-rest.ensures.shape (ap Err refused)) is

pub returns-in_err-rest-2-clause-shape : goal.returns-in_err-rest-2-clause-shape
returns-in_err-rest-2-clause-shape c = λ bad row is.
    let refused : c.in_err-rest-2.field-0.0 ≡ Shape = search rules in
    let schema = c.args.schema.now in
    let before : c.around.result.0.now ≡ take schema.primary schema.columns = c.around.ensures.before ∙
    ap (λ (l : List Column). take schema.primary l) c.as_slice-columns.ensures in
    let behind : c.around.result.1.now ≡ drop (schema.primary + 1) schema.columns = c.around.ensures.behind ∙
    ap (λ (l : List Column). drop (schema.primary + 1) l) c.as_slice-columns.ensures in
    let first = c.in_ok-rest.ensures.found in
    refused_behind schema c.around.result.0.now c.around.result.1.now first.0 row c.args.key.now c.args.fields.now c.in_ok-rest.rest.now before behind
    first.2 (c.in_err-rest-2.ensures.shape (ap Err refused)) is

pub returns-then-is_empty-clause-found : goal.returns-then-is_empty-clause-found
returns-then-is_empty-clause-found c =
    let schema = c.args.schema.now in
    let columns = c.as_slice-columns.ensures in
    let before : c.around.result.0.now ≡ take schema.primary schema.columns = c.around.ensures.before ∙
    ap (λ (l : List Column). take schema.primary l) columns in
    let behind : c.around.result.1.now ≡ drop (schema.primary + 1) schema.columns = c.around.ensures.behind ∙
    ap (λ (l : List Column). drop (schema.primary + 1) l) columns in
    let first = c.in_ok-rest.ensures.found in
    let second = c.in_ok-rest-2.ensures.found in
    let got : c.get.result ≡ Some c.in-Some.column = search rules in
    let item : c.in-Some.column.now ≡ get_or c.as_slice-columns.result.now c.from.result c.in-Some.column.now = rw got at c.get.ensures.lookup.1 in
    let inside = rw got at c.get.ensures.lookup.3 in
    let here : slice_get c.as_slice-columns.result.now schema.primary ≡ Some c.in-Some.column.now =
    rw c.from.ensures at (slice_get_read c.as_slice-columns.result.now (length c.as_slice-columns.result.now) c.from.result c.in-Some.column.now refl
    inside.0 item) in
    let column : slice_get schema.columns schema.primary ≡ Some c.in-Some.column.now = rw columns at here in
    let nothing : c.in_ok-rest-2.rest.now ≡ [] = nil_from_length c.in_ok-rest-2.rest.now (eqb-true _ 0 (sym c.if-is_empty.ensures)) in
    let key = c.in_ok-primary.ensures.found in
    let primary = c.in_ok-primary.primary in
    let start : c.fields_of.new.row.items ≡ first.0 = first.1 ∙ ap (λ (l : List Value). l ++ first.0) c.new-row.ensures.items in
    let row : c.from_vec.result ≡ first.0 ++ primary ∷ second.0 =
    c.from_vec.ensures ∙ second.1 ∙
    ap (λ (l : List Value). l ++ second.0) (c.in_ok-push.ensures.items ∙ ap (λ (l : List Value). l ++ primary ∷ []) start) ∙
    append_assoc first.0 (primary ∷ []) second.0 in
    row_found schema c.around.result.0.now c.around.result.1.now c.in-Some.column.now primary first.0 second.0 c.from_vec.result c.args.key.now
    c.args.fields.now c.in_ok-rest.rest.now before behind column key.0 key.1 first.2 (rw nothing at second.2) row

pub returns-then-is_empty-clause-range : goal.returns-then-is_empty-clause-range
returns-then-is_empty-clause-range c =
    let start : All Has64Bits c.fields_of.new.row.items = c.in_ok-rest.ensures.range (rw c.new-row.ensures.items (All-nil Has64Bits)) in
    let pushed : All Has64Bits c.push.new.self.items =
    rw c.in_ok-push.ensures.items (All-push Has64Bits c.fields_of.new.row.items c.in_ok-primary.primary start c.in_ok-primary.ensures.range) in
    rw c.from_vec.ensures (c.in_ok-rest-2.ensures.range pushed)

pub returns-else-is_empty-clause-shape : goal.returns-else-is_empty-clause-shape
returns-else-is_empty-clause-shape c = λ _ row is.
    let schema = c.args.schema.now in
    let before : c.around.result.0.now ≡ take schema.primary schema.columns = c.around.ensures.before ∙
    ap (λ (l : List Column). take schema.primary l) c.as_slice-columns.ensures in
    let behind : c.around.result.1.now ≡ drop (schema.primary + 1) schema.columns = c.around.ensures.behind ∙
    ap (λ (l : List Column). drop (schema.primary + 1) l) c.as_slice-columns.ensures in
    let first = c.in_ok-rest.ensures.found in
    let second = c.in_ok-rest-2.ensures.found in
    let nothing = nothing_left schema c.around.result.0.now c.around.result.1.now first.0 second.0 row c.args.key.now c.args.fields.now
    c.in_ok-rest.rest.now c.in_ok-rest-2.rest.now before behind first.2 second.2 is in
    eqb-false (length c.in_ok-rest-2.rest.now) 0 (sym c.if-is_empty.ensures) (ap length nothing)

pub returns-in_default-clause-shape : goal.returns-in_default-clause-shape
returns-in_default-clause-shape c = grind (arith, elements) steps 2000000

pub returns-in_err-primary-clause-shape : goal.returns-in_err-primary-clause-shape
returns-in_err-primary-clause-shape c = grind (arith, elements) steps 2000000
