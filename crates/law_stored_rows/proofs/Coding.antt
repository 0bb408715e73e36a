-- The record and the entries of a row that fits its table.
use Rattle.std.proofs.Common.{◌≡◌, ℕ, ◌≤◌, List, length, get_or, Some, refl, ap, ◌∙◌, arith}
use Rattle.std.specs.Prelude.{All, slice_get}
use Rattle.inno_types.specs.{declared.value.Kind.Kind, declared.value.Kind.TheVariants.BigInt, declared.value.Kind.TheVariants.VarBinary}
use Rattle.inno_types.specs.{declared.value.Column.Column, declared.value.Schema.Schema, declared.value.Value.Value, declared.value.Value.TheVariants.Null}
use Rattle.store_api.specs.declared.answers.Version.{Version}
use Rattle.inno_db.specs.Database.{key_of}
use Rattle.key_codec.specs.Keys.{IsOfKind, IsOfKindOrNull, key_code, key_width, entry_code}
use Rattle.key_codec.proofs.Lengths.{length-key_code, length-entry_code}
use Rattle.row_codec.specs.Rows.{IsRowOf, IsKeyOf, IsRecordOf, version_code}
use Rattle.row_codec.proofs.Stored.{length-version_code}
use Rattle.law_stored_rows.specs.{Storable.IsStorable, Fitting.FitsTable, FittingRecords.value_in, FittingRecords.IsEntryOf}
use Rattle.law_stored_rows.proofs.FittingValues.{value-fits, of_kind_or_null}

pub value_in-kind : (columns : List Column) (row : List Value) (place : ℕ) (column : Column) → IsRowOf columns row
    → slice_get columns place ≡ Some column → IsOfKindOrNull column.kind (value_in place row)
value_in-kind columns row place column fits there = of_kind_or_null column (value_in place row) (value-fits columns row place column fits there)

-- ---- the clustered record

key_of_row : (schema : Schema) (row : List Value) → FitsTable schema row → (key : List ℕ) × IsKeyOf schema row key
key_of_row schema row fits =
    let k = fits.key in
    (key_code k.column.kind (key_of schema row), record { column = k.column; primary = k.primary; present = k.of_kind; spelled = refl })

-- it has a key, and both can be read again
pub HasRecord : (schema : Schema) (version : Version) → FitsTable schema version.row
    → (key : List ℕ) × IsRecordOf schema version key (version_code schema version)
HasRecord schema version fits =
    let key = key_of_row schema version.row fits in
    (key.0, record { fits = fits.columns; key_is = key.1; value_is = refl })

length-key : (schema : Schema) (row : List Value) (key : List ℕ) (column : Column) → slice_get schema.columns schema.primary ≡ Some column
    → IsKeyOf schema row key → length key ≡ key_width column.kind
length-key schema row key column there is =
    let one : is.column ≡ column = cc (is.primary, there) in
    rw one at (ap length is.spelled ∙ length-key_code is.column.kind (key_of schema row) is.present)

pub short_key : (schema : Schema) (row : List Value) (key : List ℕ) → IsStorable schema → IsKeyOf schema row key → length key ≤ 33
short_key schema row key storable is = omega (arith, length-key schema row key storable.column storable.primary is, storable.short)

pub short_value : (schema : Schema) (version : Version) (key value : List ℕ) → IsStorable schema → IsRecordOf schema version key value → length value ≤ 1024
short_value schema version key value storable is = omega (arith, ap length is.value_is, length-version_code schema version is.fits, storable.record_short)

-- ---- entries

-- the row has an entry in each secondary key
pub HasEntries : (schema : Schema) (row : List Value) → IsStorable schema → FitsTable schema row
    → All (λ key. (bytes : List ℕ) × IsEntryOf schema key row bytes) schema.keys
HasEntries schema row storable fits = λ k d below.
    let key = get_or schema.keys k d in
    let on = storable.keys k d below in
    let front = key_of_row schema row fits in (
      entry_code on.column.kind (value_in key.column row) front.0,
      record {
        column = on.column;
        there = on.there;
        of_kind = value_in-kind schema.columns row key.column on.column fits.columns on.there;
        primary = front.0;
        primary_is = front.1;
        spelled = refl;
      },
    )

-- and no entry is longer than an index takes
pub short_entries : (schema : Schema) → IsStorable schema
    → All (λ key. (row : List Value) (bytes : List ℕ) → IsEntryOf schema key row bytes → length bytes ≤ 67) schema.keys
short_entries schema storable = λ k d below row bytes is.
    let key = get_or schema.keys k d in
    let on = storable.keys k d below in
    let width = ap length is.spelled ∙ length-entry_code is.column.kind (value_in key.column row) is.primary is.of_kind in
    let one : is.column ≡ on.column = cc (is.there, on.there) in
    let same = ap (λ (c : Column). key_width c.kind) one in
    let front = length-key schema row is.primary storable.column storable.primary is.primary_is in
    omega (arith, width, same, front, on.short)

-- ---- what writers of keys ask

no_key : (kind : Kind) → IsOfKind kind Null → ⊥
no_key BigInt is = is
no_key (VarBinary size) is = is
