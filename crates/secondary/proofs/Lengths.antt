-- How long entries are.
use Rattle.std.proofs.Common.{◌≡◌, ◌∙◌, ℕ, ◌<◌, ◌≤◌, zero, suc, List, [], ◌∷◌, length, true, sym, ap, arith}
use Rattle.std.specs.Prelude.{Option, slice_get, slice_index_or}
use Rattle.std.proofs.lemmas.Bool.Decides.{nat_tests}
use Rattle.inno_types.specs.declared.value.Kind.{Kind}
use Rattle.inno_types.specs.declared.value.Kind.TheVariants.{BigInt, VarBinary}
use Rattle.inno_types.specs.declared.value.Value.{Value}
use Rattle.inno_types.specs.declared.value.Value.TheVariants.{Null}
use Rattle.inno_types.specs.declared.value.Column.{Column}
use Rattle.inno_types.specs.declared.value.Schema.{Schema}
use Rattle.store_api.specs.declared.answers.Version.{Version}
use Rattle.inno_db.specs.Declarations.{is_short, is_indexable}
use Rattle.inno_db.specs.Database.{key_of}
use Rattle.key_codec.specs.Keys.{key_width}
use Rattle.key_codec.proofs.Lengths.{length-key_code, length-entry_front, length-entry_code}
use Rattle.row_codec.specs.Rows.{IsKeyOf, IsRowOf, IsRecordOf}
use Rattle.secondary.specs.Entries.{place_of, kind_if, kind_at, field_in, front_at, entry_of}
use Rattle.secondary.proofs.Standing.{fits_at, length-field_in}

pub length-front_at : (columns : List Column) (row : List Value) (place : ℕ) → IsRowOf columns row → place < length columns → length (front_at columns place row) ≡ length (field_in columns place row)
length-front_at columns row place is inside =
    length-entry_front (kind_at columns place) (slice_index_or row place Null) (fits_at columns row place is inside) ∙ sym (length-field_in columns row place is inside)

short_width : (kind : Kind) → is_short kind ≡ true → key_width kind ≤ 33
short_width BigInt is = omega arith
short_width (VarBinary size) is = grind (arith, nat_tests)

indexable_there : (columns : List Column) (place : ℕ) → is_indexable (slice_get columns place) ≡ true → (place < length columns) × (key_width (kind_at columns place) ≤ 33)
indexable_there [] place is = absurd cc
indexable_there (column ∷ columns) zero is = (omega arith, short_width column.kind is)
indexable_there (column ∷ columns) (suc place) is = let rest = indexable_there columns place is in (omega (arith, rest.0), rest.1)

key_length : (schema : Schema) (row : List Value) (key : List ℕ) → IsKeyOf schema row key → length key ≡ key_width (kind_at schema.columns schema.primary)
key_length schema row key is =
    ap length is.spelled ∙ length-key_code is.column.kind (key_of schema row) is.present ∙ ap (λ (c : Option Column). key_width (kind_if c)) (sym is.primary)

pub entry_short : (schema : Schema) (which : ℕ) (version : Version) (key value : List ℕ) → is_indexable (slice_get schema.columns schema.primary) ≡ true → is_indexable (slice_get schema.columns (place_of schema which)) ≡ true
    → IsRecordOf schema version key value → length (entry_of schema which version.row key) ≤ 67
entry_short schema which version key value primary indexed is =
    let place = place_of schema which in
    let first = indexable_there schema.columns schema.primary primary in
    let other = indexable_there schema.columns place indexed in
    let all = length-entry_code (kind_at schema.columns place) (slice_index_or version.row place Null) key (fits_at schema.columns version.row place is.fits other.0) in
    omega (arith, all, first.1, other.1, key_length schema version.row key is.key_is)
