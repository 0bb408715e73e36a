-- A change that fits its tables has a short record.
use Rattle.std.proofs.Common.{◌≡◌, ℕ, ◌<◌, ◌≤◌, List, [], ◌∷◌, length, All, Some, refl, subst, arith}
use Rattle.std.specs.Prelude.{slice_get}
use Rattle.std.specs.List.{AllByRecursion}
use Rattle.std.proofs.lemmas.List.Elements.{All-get_or, All-from_recursion, recursion_from_All}
use Rattle.std.proofs.lemmas.Option.{slice_get_within, get_or_from_slice_get}
use Rattle.inno_types.specs.declared.value.Kind.{Kind}
use Rattle.inno_types.specs.declared.value.Kind.TheVariants.{BigInt, VarBinary}
use Rattle.inno_types.specs.declared.value.Value.{Value}
use Rattle.inno_types.specs.declared.value.Value.TheVariants.{Null, Int, Text}
use Rattle.inno_types.specs.declared.value.Column.{Column}
use Rattle.inno_types.specs.declared.value.Schema.{Schema}
use Rattle.inno_db.specs.declared.change.Change.{Change}
use Rattle.inno_db.specs.declared.change.Change.TheVariants.{Create, Put, Remove}
use Rattle.inno_db.specs.declared.limits.TheConstants.{MOST_TABLES}
use Rattle.schema_codec.specs.Schema.{IsKind, IsColumn}
use Rattle.key_codec.specs.Keys.{IsOfKind, Has64Bits}
use Rattle.row_codec.specs.Rows.{FitsColumn, IsRowOf}
use Rattle.log_format.specs.Group.{IsValue}
use Rattle.law_stored_rows.specs.Fitting.{FitsTable, IsKeyFor, FitsTables}
use Rattle.law_stored_rows.specs.Numbers.{ChangeHas64Bits}
use Rattle.law_stored_rows.proofs.Rows.{schema_at}
use Rattle.commit_log.specs.Room.{IsLoggable, IsShort, HasRecord}
use Rattle.commit_log.proofs.Short.{has_record}
use Rattle.law_logged_histories.specs.Making.{MakesLoggable}

-- ---- values

text_is : (kind : Kind) (text : List ℕ) → IsKind kind → IsOfKind kind (Text text) → IsValue (Text text)
text_is BigInt text sized is = absurd is
text_is (VarBinary size) text sized is = omega (arith, sized, is)

kind_is : (kind : Kind) (v : Value) → IsKind kind → IsOfKind kind v → Has64Bits v → IsValue v
kind_is kind Null sized is bits = tt
kind_is kind (Int n) sized is bits = bits
kind_is kind (Text text) sized is bits = text_is kind text sized is

column_is : (c : Column) (v : Value) → IsColumn c → FitsColumn c v → Has64Bits v → IsValue v
column_is c Null is fits bits = tt
column_is c (Int n) is fits bits = bits
column_is c (Text text) is fits bits = text_is c.kind text is.1 fits

row_is : (columns : List Column) (row : List Value) → AllByRecursion IsColumn columns → IsRowOf columns row → AllByRecursion Has64Bits row
    → (length row ≡ length columns) × AllByRecursion IsValue row
row_is [] [] are fits bits = (refl, tt)
row_is [] (v ∷ row) are fits bits = absurd fits
row_is (c ∷ columns) [] are fits bits = absurd fits
row_is (c ∷ columns) (v ∷ row) are fits bits =
    let others = row_is columns row are.1 fits.1 bits.1 in
    let long = others.0 in
    (omega (arith, long), (column_is c v are.0 fits.0 bits.0, others.1))

-- ---- tables

-- a table of this number that the log can make
record Found (table : ℕ) (schema : Schema) : Type 0 where
  pub low : table < 256
  pub made : IsLoggable schema

found : (tables : List Schema) (table : ℕ) (schema : Schema) → length tables ≤ MOST_TABLES → All IsLoggable tables
    → slice_get tables table ≡ Some schema → Found table schema
found tables table schema few all is =
    let within : table < length tables = slice_get_within tables table schema is in
    record {
      low = omega (arith, within, few);
      made = subst IsLoggable (get_or_from_slice_get tables table schema schema is) (All-get_or IsLoggable tables table schema within all);
    }

-- ---- changes

put_is : (table : ℕ) (row : List Value) (schema : Schema) → Found table schema → FitsTable schema row → All Has64Bits row → IsShort (Put table row)
put_is table row schema at fits bits =
    let all = row_is schema.columns row (recursion_from_All IsColumn schema.columns at.made.fits.1.1) fits.columns (recursion_from_All Has64Bits row bits) in
    let long = all.0 in
    (at.low, omega (arith, long, at.made.columns), All-from_recursion IsValue row all.1)

remove_is : (table : ℕ) (key : Value) (schema : Schema) → Found table schema → IsKeyFor schema key → Has64Bits key → IsShort (Remove table key)
remove_is table key schema at is bits =
    let within = slice_get_within schema.columns schema.primary is.column is.primary in
    let same = get_or_from_slice_get schema.columns schema.primary is.column is.column is.primary in
    let column : IsColumn is.column = subst IsColumn same (All-get_or IsColumn schema.columns schema.primary is.column within at.made.fits.1.1) in
    (at.low, kind_is is.column.kind key column.1 is.of_kind bits)

pub fitting_has_record : (tables : List Schema) (change : Change) → length tables ≤ MOST_TABLES → All IsLoggable tables → MakesLoggable change
    → FitsTables tables change → ChangeHas64Bits change → HasRecord change
fitting_has_record tables (Create schema) few all made fits bits = has_record (Create schema) made
fitting_has_record tables (Put table row) few all made fits bits =
    let at = schema_at (λ schema. FitsTable schema row) (slice_get tables table) fits in
    has_record (Put table row) (put_is table row at.0 (found tables table at.0 few all at.1) at.2 bits)
fitting_has_record tables (Remove table key) few all made fits bits =
    let at = schema_at (λ schema. IsKeyFor schema key) (slice_get tables table) fits in
    has_record (Remove table key) (remove_is table key at.0 (found tables table at.0 few all at.1) at.2 bits)
