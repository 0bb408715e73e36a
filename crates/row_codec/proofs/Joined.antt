-- Fields one behind the other: rows that are joined, and what is read from the front of the bytes.
use Rattle.std.proofs.Common.{◌≡◌, ℕ, zero, suc, ◌+◌, ◌<◌, List, [], ◌∷◌, ◌++◌, length, take, drop, get_or, refl, sym, ap, ◌∙◌, append_assoc, length-append, arith}
use Rattle.std.specs.Prelude.{sum_by}
use Rattle.std.proofs.lemmas.List.{append-nil, take-append-drop, take_more, drop_more}
use Rattle.std.proofs.lemmas.List.Sums.{sum_by-cons}
use Rattle.inno_types.specs.declared.value.Value.{Value}
use Rattle.inno_types.specs.declared.value.Column.{Column}
use Rattle.key_codec.specs.Keys.{key_width}
use Rattle.row_codec.specs.Rows.{FitsColumn, IsRowOf, field_code, fields_code}
use Rattle.row_codec.specs.Reads.{Reads}
use Rattle.row_codec.proofs.Parts.{same_fronts, length-field_code}

pub length-row : (columns : List Column) (row : List Value) → IsRowOf columns row → length row ≡ length columns
length-row [] [] is = refl
length-row [] (value ∷ row) is = absurd is
length-row (column ∷ columns) [] is = absurd is
length-row (column ∷ columns) (value ∷ row) is = ap suc (length-row columns row is.1)

pub IsRowOf-append : (columns others : List Column) (row more : List Value) → IsRowOf columns row → IsRowOf others more → IsRowOf (columns ++ others) (row ++ more)
IsRowOf-append [] others [] more is also = also
IsRowOf-append [] others (value ∷ row) more is also = absurd is
IsRowOf-append (column ∷ columns) others [] more is also = absurd is
IsRowOf-append (column ∷ columns) others (value ∷ row) more is also = (is.0, IsRowOf-append columns others row more is.1 also)

pub IsRowOf-take : (n : ℕ) (columns : List Column) (row : List Value) → IsRowOf columns row → IsRowOf (take n columns) (take n row)
IsRowOf-take zero columns row is = tt
IsRowOf-take (suc n) [] [] is = tt
IsRowOf-take (suc n) [] (value ∷ row) is = absurd is
IsRowOf-take (suc n) (column ∷ columns) [] is = absurd is
IsRowOf-take (suc n) (column ∷ columns) (value ∷ row) is = (is.0, IsRowOf-take n columns row is.1)

pub IsRowOf-drop : (n : ℕ) (columns : List Column) (row : List Value) → IsRowOf columns row → IsRowOf (drop n columns) (drop n row)
IsRowOf-drop zero columns row is = is
IsRowOf-drop (suc n) [] [] is = tt
IsRowOf-drop (suc n) [] (value ∷ row) is = absurd is
IsRowOf-drop (suc n) (column ∷ columns) [] is = absurd is
IsRowOf-drop (suc n) (column ∷ columns) (value ∷ row) is = IsRowOf-drop n columns row is.1

pub fields_code-append : (columns others : List Column) (row more : List Value) → IsRowOf columns row → fields_code (columns ++ others) (row ++ more) ≡ fields_code columns row ++ fields_code others more
fields_code-append [] others [] more is = refl
fields_code-append [] others (value ∷ row) more is = absurd is
fields_code-append (column ∷ columns) others [] more is = absurd is
fields_code-append (column ∷ columns) others (value ∷ row) more is =
    ap (λ (l : List ℕ). field_code column.kind value ++ l) (fields_code-append columns others row more is.1) ∙ sym (append_assoc (field_code column.kind value) (fields_code columns row) (fields_code others more))

pub length-fields_code : (columns : List Column) (row : List Value) → IsRowOf columns row → length (fields_code columns row) ≡ sum_by (λ column. 1 + key_width column.kind) columns
length-fields_code [] [] is = refl
length-fields_code [] (value ∷ row) is = absurd is
length-fields_code (column ∷ columns) [] is = absurd is
length-fields_code (column ∷ columns) (value ∷ row) is =
    let first = length-field_code column value is.0 in
    let rest = length-fields_code columns row is.1 in
    omega (arith, first, rest, length-append (field_code column.kind value) (fields_code columns row), sum_by-cons (λ (c : Column). 1 + key_width c.kind) column columns)

-- ---- reading

pub Reads-then : (columns others : List Column) (bytes rest behind : List ℕ) (row more : List Value) → Reads columns bytes row rest → Reads others rest more behind → Reads (columns ++ others) bytes (row ++ more) behind
Reads-then columns others bytes rest behind row more first second = record {
  fits = IsRowOf-append columns others row more first.fits second.fits;
  spelled =
      first.spelled ∙ ap (λ (l : List ℕ). fields_code columns row ++ l) second.spelled ∙ sym (append_assoc (fields_code columns row) (fields_code others more) behind)
      ∙ ap (λ (l : List ℕ). l ++ behind) (sym (fields_code-append columns others row more first.fits));
}

pub Reads-one : (column : Column) (value : Value) (bytes behind : List ℕ) → FitsColumn column value → bytes ≡ field_code column.kind value ++ behind → Reads (column ∷ []) bytes (value ∷ []) behind
Reads-one column value bytes behind fits e = record { fits = (fits, tt); spelled = e ∙ ap (λ (l : List ℕ). l ++ behind) (sym (append-nil (field_code column.kind value))) }

-- the rest is told by the columns alone
pub Reads-one_rest : (columns : List Column) (bytes rest other : List ℕ) (row more : List Value) → Reads columns bytes row rest → Reads columns bytes more other → (fields_code columns row ≡ fields_code columns more) × (rest ≡ other)
Reads-one_rest columns bytes rest other row more first second =
    same_fronts (fields_code columns row) (fields_code columns more) rest other (length-fields_code columns row first.fits ∙ sym (length-fields_code columns more second.fits)) (sym first.spelled ∙ second.spelled)

-- Where the first columns were read and all can be, a field of the next stands at the front of the rest.
pub next_field : (columns : List Column) (column : Column) (others : List Column) (bytes rest behind : List ℕ) (seen all : List Value) → Reads columns bytes seen rest → Reads (columns ++ column ∷ others) bytes all behind
    → (value : Value) × (after : List ℕ) × FitsColumn column value × (rest ≡ field_code column.kind value ++ after)
next_field [] column others bytes rest behind [] [] first second = absurd second.fits
next_field [] column others bytes rest behind [] (value ∷ all) first second =
    (value, fields_code others all ++ behind, second.fits.0, sym first.spelled ∙ second.spelled ∙ append_assoc (field_code column.kind value) (fields_code others all) behind)
next_field [] column others bytes rest behind (value ∷ seen) all first second = absurd first.fits
next_field (c ∷ columns) column others bytes rest behind [] all first second = absurd first.fits
next_field (c ∷ columns) column others bytes rest behind (value ∷ seen) [] first second = absurd second.fits
next_field (c ∷ columns) column others bytes rest behind (value ∷ seen) (other ∷ all) first second =
    let left = first.spelled ∙ append_assoc (field_code c.kind value) (fields_code columns seen) rest in
    let right = second.spelled ∙ append_assoc (field_code c.kind other) (fields_code (columns ++ column ∷ others) all) behind in
    let tails = same_fronts (field_code c.kind value) (field_code c.kind other) (fields_code columns seen ++ rest) (fields_code (columns ++ column ∷ others) all ++ behind)
    (length-field_code c value first.fits.0 ∙ sym (length-field_code c other second.fits.0)) (sym left ∙ right) in
    next_field columns column others (fields_code columns seen ++ rest) rest behind seen all (record { fits = first.fits.1; spelled = refl }) (record { fits = second.fits.1; spelled = tails.1 })

-- ---- a walk over columns

pub around_item : (columns : List Column) (i : ℕ) (column : Column) → i < length columns → column ≡ get_or columns i column → columns ≡ take i columns ++ column ∷ drop (i + 1) columns
around_item columns i column inside is = sym (take-append-drop i columns) ∙ ap (λ (l : List Column). take i columns ++ l) (drop_more columns i column inside ∙ ap (λ (c : Column). c ∷ drop (i + 1) columns) (sym is))

pub take_item : (columns : List Column) (i : ℕ) (column : Column) → i < length columns → column ≡ get_or columns i column → take (i + 1) columns ≡ take i columns ++ column ∷ []
take_item columns i column inside is = take_more columns i column inside ∙ ap (λ (c : Column). take i columns ++ c ∷ []) (sym is)

pub fields_code-none : (columns : List Column) → fields_code columns [] ≡ []
fields_code-none [] = refl
fields_code-none (column ∷ columns) = refl
