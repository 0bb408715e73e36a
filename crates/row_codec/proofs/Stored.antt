-- A row is kept as the key of its primary value, and the fields before and behind it.
use Rattle.std.proofs.Common.{◌≡◌, ℕ, zero, suc, ◌+◌, ◌<◌, Bool, List, [], ◌∷◌, ◌++◌, length, take, drop, Some, sym, ap, subst, ◌∙◌, append_assoc, length-append, add-one, arith}
use Rattle.std.specs.Prelude.{slice_get, remove, sum_by}
use Rattle.std.proofs.lemmas.List.{append-nil, take_at, drop_at, get_or_at, length-take}
use Rattle.inno_types.specs.declared.value.Kind.{Kind}
use Rattle.inno_types.specs.declared.value.Kind.TheVariants.{BigInt, VarBinary}
use Rattle.inno_types.specs.declared.value.Value.{Value}
use Rattle.inno_types.specs.declared.value.Value.TheVariants.{Null, Int, Text}
use Rattle.inno_types.specs.declared.value.Column.{Column}
use Rattle.inno_types.specs.declared.value.Schema.{Schema}
use Rattle.inno_db.specs.Database.{key_of}
use Rattle.key_codec.specs.Keys.{IsOfKind, key_code, key_width}
use Rattle.row_codec.specs.Rows.{FitsColumn, IsRowOf, IsStored, IsRecordOf, fields_code, others_code, head_code, version_code}
use Rattle.row_codec.specs.Reads.{Reads}
use Rattle.row_codec.proofs.Parts.{same_fronts, length-head_code}
use Rattle.store_api.specs.declared.answers.Version.{Version}
use Rattle.row_codec.proofs.Joined.{length-row, length-fields_code, IsRowOf-append, IsRowOf-take, IsRowOf-drop, fields_code-append, Reads-one_rest}

null_of_no_kind : (kind : Kind) → IsOfKind kind Null → ⊥
null_of_no_kind BigInt is = is
null_of_no_kind (VarBinary size) is = is

pub present_fits : (column : Column) (value : Value) → IsOfKind column.kind value → FitsColumn column value
present_fits column Null is = absurd (null_of_no_kind column.kind is)
present_fits column (Int n) is = is
present_fits column (Text text) is = is

-- a list around the place of an item
pub around : (columns : List Column) (place : ℕ) (column : Column) → slice_get columns place ≡ Some column → (columns ≡ take place columns ++ column ∷ drop (suc place) columns) × (place < length columns)
around [] place column e = absurd cc
around (first ∷ columns) zero column e =
    let same : first ≡ column = cc in (ap (λ (c : Column). c ∷ columns) same, omega arith)
around (first ∷ columns) (suc place) column e =
    let rest = around columns place column e in (ap (λ (l : List Column). first ∷ l) rest.0, omega (arith, rest.1))

drop_behind : (before : List Value) (value : Value) (behind : List Value) (p : ℕ) → length before ≡ p → drop (suc p) (before ++ value ∷ behind) ≡ behind
drop_behind before value behind p e = ap (λ (l : List Value). drop (suc p) l) (sym (append_assoc before (value ∷ []) behind)) ∙ drop_at (before ++ value ∷ []) behind (suc p) (omega (arith, e, length-append before (value ∷ [])))

pub stored : (schema : Schema) (column : Column) (primary : Value) (before behind : List Value) (key fields rest : List ℕ) → slice_get schema.columns schema.primary ≡ Some column → IsOfKind column.kind primary
    → key ≡ key_code column.kind primary → Reads (take schema.primary schema.columns) fields before rest → Reads (drop (suc schema.primary) schema.columns) rest behind [] → IsStored schema (before ++ primary ∷ behind) key fields
stored schema column primary before behind key fields rest found is key_is first second =
    let p = schema.primary in
    let columns = schema.columns in
    let split = around columns p column found in
    let before_length : length before ≡ p = omega (arith, length-row (take p columns) before first.fits, length-take p columns, split.1) in
    let value_is : key_of schema (before ++ primary ∷ behind) ≡ primary = get_or_at before primary behind Null p before_length in
    let front : take p (before ++ primary ∷ behind) ≡ before = take_at before (primary ∷ behind) p before_length in
    let back : drop (suc p) (before ++ primary ∷ behind) ≡ behind = drop_behind before primary behind p before_length in
    let fits : IsRowOf (take p columns ++ column ∷ drop (suc p) columns) (before ++ primary ∷ behind) = IsRowOf-append (take p columns) (column ∷ drop (suc p) columns) before (primary ∷ behind) first.fits (present_fits column primary is, second.fits) in
    let others : others_code p columns (before ++ primary ∷ behind) ≡ fields_code (take p columns) before ++ fields_code (drop (suc p) columns) behind = rw (front, back) (fields_code-append (take p columns) (drop (suc p) columns) before behind first.fits) in
    record {
      fits = subst (λ (l : List Column). IsRowOf l (before ++ primary ∷ behind)) (sym split.0) fits;
      key_is = record { column = column; primary = found; present = rw value_is is; spelled = rw value_is key_is };
      fields_are = first.spelled ∙ ap (λ (l : List ℕ). fields_code (take p columns) before ++ l) (second.spelled ∙ append-nil (fields_code (drop (suc p) columns) behind)) ∙ sym others;
    }

-- the fields before and behind the primary column can be read from a row that is kept
pub stored_parts : (schema : Schema) (row : List Value) (key fields : List ℕ) → IsStored schema row key fields → (rest : List ℕ) × Reads (take schema.primary schema.columns) fields (take schema.primary row) rest × Reads (drop (suc schema.primary) schema.columns) rest (drop (suc schema.primary) row) []
stored_parts schema row key fields is =
    let p = schema.primary in
    let columns = schema.columns in
    let front = IsRowOf-take p columns row is.fits in
    let back = IsRowOf-drop (suc p) columns row is.fits in (
      fields_code (drop (suc p) columns) (drop (suc p) row),
      record { fits = front; spelled = is.fields_are ∙ fields_code-append (take p columns) (drop (suc p) columns) (take p row) (drop (suc p) row) front },
      record { fits = back; spelled = sym (append-nil (fields_code (drop (suc p) columns) (drop (suc p) row))) },
    )

pub length-version_code : (schema : Schema) (v : Version) → IsRowOf schema.columns v.row → length (version_code schema v) ≡ 17 + sum_by (λ column. 1 + key_width column.kind) (remove schema.columns schema.primary)
length-version_code schema v is =
    let p = schema.primary in
    let columns = schema.columns in
    let row = v.row in
    let others : IsRowOf (remove columns p) (remove row p) = IsRowOf-append (take p columns) (drop (suc p) columns) (take p row) (drop (suc p) row) (IsRowOf-take p columns row is) (IsRowOf-drop (suc p) columns row is) in
    length-append (head_code v.marked v.writer v.pointer) (others_code p columns row) ∙ ap (λ (n : ℕ). n + length (others_code p columns row)) (length-head_code v.marked v.writer v.pointer)
    ∙ ap (λ (n : ℕ). 17 + n) (length-fields_code (remove columns p) (remove row p) others)

-- ---- a row that is read, with the columns before the primary one and behind it as the code has them

pub row_found : (schema : Schema) (before_columns behind_columns : List Column) (column : Column) (primary : Value) (before behind row : List Value) (key fields rest : List ℕ) → before_columns ≡ take schema.primary schema.columns
    → behind_columns ≡ drop (schema.primary + 1) schema.columns → slice_get schema.columns schema.primary ≡ Some column → IsOfKind column.kind primary → key ≡ key_code column.kind primary → Reads before_columns fields before rest
    → Reads behind_columns rest behind [] → row ≡ before ++ primary ∷ behind → IsStored schema row key fields
row_found schema before_columns behind_columns column primary before behind row key fields rest before_are behind_are found is key_is first second row_is =
    rw row_is (stored schema column primary before behind key fields rest found is key_is (rw before_are at first) (rw (behind_are, add-one) at second))

pub refused_before : (schema : Schema) (before_columns : List Column) (row : List Value) (key fields : List ℕ) → before_columns ≡ take schema.primary schema.columns → ((values : List Value) (rest : List ℕ) → Reads before_columns fields values rest → ⊥)
    → IsStored schema row key fields → ⊥
refused_before schema before_columns row key fields before_are none is = let parts = stored_parts schema row key fields is in none (take schema.primary row) parts.0 (rw before_are parts.1)

pub refused_behind : (schema : Schema) (before_columns behind_columns : List Column) (before row : List Value) (key fields rest : List ℕ) → before_columns ≡ take schema.primary schema.columns → behind_columns ≡ drop (schema.primary + 1) schema.columns
    → Reads before_columns fields before rest → ((values : List Value) (more : List ℕ) → Reads behind_columns rest values more → ⊥) → IsStored schema row key fields → ⊥
refused_behind schema before_columns behind_columns before row key fields rest before_are behind_are first none is =
    let parts = stored_parts schema row key fields is in
    let one = Reads-one_rest (take schema.primary schema.columns) fields rest parts.0 before (take schema.primary row) (rw before_are at first) parts.1 in
    none (drop (suc schema.primary) row) [] (rw (behind_are, add-one, one.1) parts.2)

pub nothing_left : (schema : Schema) (before_columns behind_columns : List Column) (before behind row : List Value) (key fields rest more : List ℕ) → before_columns ≡ take schema.primary schema.columns → behind_columns ≡ drop (schema.primary + 1) schema.columns
    → Reads before_columns fields before rest → Reads behind_columns rest behind more → IsStored schema row key fields → more ≡ []
nothing_left schema before_columns behind_columns before behind row key fields rest more before_are behind_are first second is =
    let parts = stored_parts schema row key fields is in
    let one = Reads-one_rest (take schema.primary schema.columns) fields rest parts.0 before (take schema.primary row) (rw before_are at first) parts.1 in
    (Reads-one_rest (drop (suc schema.primary) schema.columns) parts.0 more [] behind (drop (suc schema.primary) row) (rw (behind_are, add-one, one.1) at second) parts.2).1

-- ---- a row that is written

pub row_before : (place : ℕ) (columns before_columns : List Column) (row before : List Value) → before_columns ≡ take place columns → before ≡ take place row → IsRowOf columns row → IsRowOf before_columns before
row_before place columns before_columns row before columns_are before_is is = rw (columns_are, before_is) (IsRowOf-take place columns row is)

pub row_behind : (place : ℕ) (columns behind_columns : List Column) (row behind : List Value) → behind_columns ≡ drop (place + 1) columns → behind ≡ drop (place + 1) row → IsRowOf columns row → IsRowOf behind_columns behind
row_behind place columns behind_columns row behind columns_are behind_is is = rw (columns_are, behind_is, add-one) (IsRowOf-drop (suc place) columns row is)

pub others_are : (place : ℕ) (columns before_columns behind_columns : List Column) (row before behind : List Value) → before_columns ≡ take place columns → behind_columns ≡ drop (place + 1) columns → before ≡ take place row → behind ≡ drop (place + 1) row
    → IsRowOf columns row → fields_code before_columns before ++ fields_code behind_columns behind ≡ others_code place columns row
others_are place columns before_columns behind_columns row before behind before_are behind_are before_is behind_is is =
    rw (before_are, behind_are, before_is, behind_is, add-one) (sym (fields_code-append (take place columns) (drop (suc place) columns) (take place row) (drop (suc place) row) (IsRowOf-take place columns row is)))

-- what stands behind the head of a version that is kept are the fields of its row
pub stored_row : (schema : Schema) (version : Version) (key value : List ℕ) (marked : Bool) (writer pointer : ℕ) (fields : List ℕ) → value ≡ head_code marked writer pointer ++ fields → IsRecordOf schema version key value → IsStored schema version.row key fields
stored_row schema version key value marked writer pointer fields e is =
    let parts = same_fronts (head_code marked writer pointer) (head_code version.marked version.writer version.pointer) fields (others_code schema.primary schema.columns version.row)
    (length-head_code marked writer pointer ∙ sym (length-head_code version.marked version.writer version.pointer)) (sym e ∙ is.value_is) in
    record { fits = is.fits; key_is = is.key_is; fields_are = parts.1 }

pub record_from : (schema : Schema) (version : Version) (key value fields : List ℕ) → value ≡ head_code version.marked version.writer version.pointer ++ fields → IsStored schema version.row key fields → IsRecordOf schema version key value
record_from schema version key value fields e is = record { fits = is.fits; key_is = is.key_is; value_is = e ∙ ap (λ (l : List ℕ). head_code version.marked version.writer version.pointer ++ l) is.fields_are }
