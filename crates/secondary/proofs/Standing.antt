-- Where a column's field stands among the fields of all columns but the primary one.
use Rattle.std.proofs.Common.{◌≡◌, ◌≢◌, ◌∙◌, ℕ, zero, suc, ◌+◌, ◌-◌, ◌<◌, ◌≤◌, List, [], ◌∷◌, ◌++◌, length, take, drop, get_or, refl, sym, ap, subst, append_assoc, length-append, arith}
use Rattle.std.specs.Prelude.{remove, sum_by, slice_range, slice_index_or}
use Rattle.std.proofs.lemmas.List.{take_at, drop_at}
use Rattle.std.proofs.lemmas.List.Elements.{All-get_or}
use Rattle.std.proofs.lemmas.Option.{slice_get_read}
use Rattle.inno_types.specs.declared.value.Kind.{Kind}
use Rattle.inno_types.specs.declared.value.Value.{Value}
use Rattle.inno_types.specs.declared.value.Value.TheVariants.{Null, Int, Text}
use Rattle.inno_types.specs.declared.value.Column.{Column}
use Rattle.store_api.specs.declared.answers.Version.{Version}
use Rattle.key_codec.specs.Keys.{IsOfKindOrNull, Has64Bits, HasEntry, key_width, entry_front}
use Rattle.row_codec.specs.Rows.{FitsColumn, IsRowOf, IsVersion, field_code, fields_code, others_code}
use Rattle.row_codec.proofs.Parts.{length-field_code}
use Rattle.row_codec.proofs.Joined.{length-row, IsRowOf-append, IsRowOf-take, IsRowOf-drop, length-fields_code}
use Rattle.secondary.specs.Entries.{kind_if, kind_at, field_width, field_in, front_at}

-- ---- a field

or_null : (column : Column) (value : Value) → FitsColumn column value → IsOfKindOrNull column.kind value
or_null column Null fits = tt
or_null column (Int n) fits = fits
or_null column (Text text) fits = fits

pub fits_at : (columns : List Column) (row : List Value) (place : ℕ) → IsRowOf columns row → place < length columns → IsOfKindOrNull (kind_at columns place) (slice_index_or row place Null)
fits_at [] row place is inside = absurd (omega (arith, inside))
fits_at (column ∷ columns) [] place is inside = absurd is
fits_at (column ∷ columns) (value ∷ row) zero is inside = or_null column value is.0
fits_at (column ∷ columns) (value ∷ row) (suc place) is inside = fits_at columns row place is.1 (omega (arith, inside))

pub length-field_in : (columns : List Column) (row : List Value) (place : ℕ) → IsRowOf columns row → place < length columns → length (field_in columns place row) ≡ 1 + key_width (kind_at columns place)
length-field_in [] row place is inside = absurd (omega (arith, inside))
length-field_in (column ∷ columns) [] place is inside = absurd is
length-field_in (column ∷ columns) (value ∷ row) zero is inside = length-field_code column value is.0
length-field_in (column ∷ columns) (value ∷ row) (suc place) is inside = length-field_in columns row place is.1 (omega (arith, inside))

-- the bytes are those of the fields before it, then it, and then a rest
record Stands (all before field : List ℕ) : Type 0 where
  rest : List ℕ
  parts : all ≡ before ++ (field ++ rest)

stands_behind : (first all before field : List ℕ) → Stands all before field → Stands (first ++ all) (first ++ before) field
stands_behind first all before field stands = record {
  rest = stands.rest;
  parts = ap (λ (l : List ℕ). first ++ l) stands.parts ∙ sym (append_assoc first before (field ++ stands.rest));
}

field_stands : (columns : List Column) (row : List Value) (place : ℕ) → IsRowOf columns row → place < length columns → Stands (fields_code columns row) (fields_code (take place columns) (take place row)) (field_in columns place row)
field_stands [] row place is inside = absurd (omega (arith, inside))
field_stands (column ∷ columns) [] place is inside = absurd is
field_stands (column ∷ columns) (value ∷ row) zero is inside = record { rest = fields_code columns row; parts = refl }
field_stands (column ∷ columns) (value ∷ row) (suc place) is inside =
    stands_behind (field_code column.kind value) (fields_code columns row) (fields_code (take place columns) (take place row)) (field_in columns place row) (field_stands columns row place is.1 (omega (arith, inside)))

other_stands : (primary place : ℕ) (columns : List Column) (row : List Value) → IsRowOf columns row → place < length columns → place ≢ primary
    → Stands (others_code primary columns row) (others_code primary (take place columns) (take place row)) (field_in columns place row)
other_stands primary place [] row is inside other = absurd (omega (arith, inside))
other_stands primary place (column ∷ columns) [] is inside other = absurd is
other_stands zero zero (column ∷ columns) (value ∷ row) is inside other = absurd (other refl)
other_stands zero (suc place) (column ∷ columns) (value ∷ row) is inside other = field_stands columns row place is.1 (omega (arith, inside))
other_stands (suc primary) zero (column ∷ columns) (value ∷ row) is inside other = record { rest = others_code primary columns row; parts = refl }
other_stands (suc primary) (suc place) (column ∷ columns) (value ∷ row) is inside other =
    stands_behind (field_code column.kind value) (others_code primary columns row) (others_code primary (take place columns) (take place row)) (field_in columns place row)
    (other_stands primary place columns row is.1 (omega (arith, inside)) (λ same. other (ap suc same)))

length-others : (primary : ℕ) (columns : List Column) (row : List Value) → IsRowOf columns row → length (others_code primary columns row) ≡ sum_by field_width (remove columns primary)
length-others primary columns row is =
    length-fields_code (remove columns primary) (remove row primary)
    (IsRowOf-append (take primary columns) (drop (suc primary) columns) (take primary row) (drop (suc primary) row) (IsRowOf-take primary columns row is) (IsRowOf-drop (suc primary) columns row is))

-- the bytes of the value that are the field
pub record IsFound (columns : List Column) (row : List Value) (place start : ℕ) (value : List ℕ) : Type 0 where
  pub whole : start + 1 + key_width (kind_at columns place) ≤ length value
  pub field : slice_range value start (start + 1 + key_width (kind_at columns place)) ≡ field_in columns place row

cut : (before field rest value : List ℕ) (start size : ℕ) → value ≡ before ++ (field ++ rest) → length before ≡ start → length field ≡ size → (start + size ≤ length value) × (slice_range value start (start + size) ≡ field)
cut before field rest value start size parts long wide = (
  omega (arith, ap length parts, length-append before (field ++ rest), length-append field rest, long, wide),
  ap (λ (l : List ℕ). slice_range l start (start + size)) parts ∙ ap (λ (l : List ℕ). take (start + size - start) l) (drop_at before (field ++ rest) start long) ∙ take_at field rest (start + size - start) (omega (arith, wide)),
)

pub found_at : (head : List ℕ) (primary place start : ℕ) (columns : List Column) (row : List Value) (value : List ℕ) → length head ≡ 17 → IsRowOf columns row → place < length columns → place ≢ primary
    → start ≡ 17 + sum_by field_width (remove (take place columns) primary) → value ≡ head ++ others_code primary columns row → IsFound columns row place start value
found_at head primary place start columns row value long is inside other at parts =
    let front = others_code primary (take place columns) (take place row) in
    let stands = stands_behind head (others_code primary columns row) front (field_in columns place row) (other_stands primary place columns row is inside other) in
    let before : length (head ++ front) ≡ start = omega (arith, length-append head front, long, at, length-others primary (take place columns) (take place row) (IsRowOf-take place columns row is)) in
    let size = 1 + key_width (kind_at columns place) in
    let done = cut (head ++ front) (field_in columns place row) stands.rest value start size (parts ∙ stands.parts) before (length-field_in columns row place is inside) in
    let sum : start + 1 + key_width (kind_at columns place) ≡ start + size = omega arith in
    record { whole = omega (arith, done.0, sum); field = ap (λ (n : ℕ). slice_range value start n) sum ∙ done.1 }

pub kind_is : (columns : List Column) (place : ℕ) (column : Column) → place < length columns → column ≡ get_or columns place column → kind_at columns place ≡ column.kind
kind_is columns place column inside is = ap kind_if (slice_get_read columns (length columns) place column refl inside is)

-- ---- a record

-- what the field of a record at a place is to its entry
pub record IsField (columns : List Column) (row : List Value) (place : ℕ) (kind : Kind) (field : List ℕ) : Type 0 where
  pub has : HasEntry kind (slice_index_or row place Null)
  pub field_is : field ≡ field_code kind (slice_index_or row place Null)
  pub front_is : entry_front kind (slice_index_or row place Null) ≡ front_at columns place row

pub field_read : (columns : List Column) (version : Version) (place : ℕ) (kind : Kind) (field : List ℕ) → IsVersion version → IsRowOf columns version.row → place < length columns → kind_at columns place ≡ kind → field ≡ field_in columns place version.row
    → IsField columns version.row place kind field
field_read columns version place kind field has fits inside same is =
    let value = slice_index_or version.row place Null in
    let there : place < length version.row = omega (arith, length-row columns version.row fits, inside) in
    record {
      has = (subst (λ (k : Kind). IsOfKindOrNull k value) same (fits_at columns version.row place fits inside), All-get_or Has64Bits version.row place Null there has.row);
      field_is = is ∙ ap (λ (k : Kind). field_code k value) same;
      front_is = ap (λ (k : Kind). entry_front k value) (sym same);
    }
