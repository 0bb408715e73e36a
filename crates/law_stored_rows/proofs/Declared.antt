-- What a CREATE TABLE declares can be stored.
use Rattle.std.proofs.Common.{◌≡◌, ℕ, suc, ◌+◌, ◌<◌, ◌≤◌, List, [], ◌∷◌, length, take, drop, Bool, true, false, ◌&&◌, ◌||◌, not, Option, Some, None, refl}
use Rattle.std.proofs.Common.{ap, subst, arith, add-one}
use Rattle.std.specs.Prelude.{All, slice_get, nat_le, sum_by, remove, unwrap_or}
use Rattle.std.specs.List.{list_all}
use Rattle.std.specs.Str.{str_eq_ignore_ascii_case}
use Rattle.std.proofs.lemmas.Bool.{and_from, and_parts}
use Rattle.std.proofs.lemmas.Bool.Decides.{nat_tests}
use Rattle.std.proofs.lemmas.List.Elements.{All-nil, All-cons}
use Rattle.std.proofs.lemmas.List.Sums.{AllPass-from_list_all, sum_by-cons, sum_by-append, sum_by-take-drop, sum_by-drop_more}
use Rattle.std.proofs.lemmas.List.Quantifiers.{position-Some}
use Rattle.std.proofs.lemmas.Option.{slice_get_within, get_or_from_slice_get, cond_some}
use Rattle.inno_types.specs.{declared.value.Kind.Kind, declared.value.Kind.TheVariants.BigInt, declared.value.Kind.TheVariants.VarBinary}
use Rattle.inno_types.specs.{declared.value.Column.Column, declared.value.Schema.Schema, declared.stmt.Definition.Definition}
use Rattle.inno_types.specs.declared.stmt.Definition.TheVariants as definition
use Rattle.inno_db.specs.{Names.column_at, Names.column_place, declared.limits.TheConstants.MOST_COLUMNS, declared.limits.TheConstants.MOST_BYTES_OF_ROW}
use Rattle.inno_db.specs.Declarations.{has_twins, is_sized, says_not_null, columns_of, primaries_of, key_columns_of, key_bytes, keys_of, row_bytes, is_short}
use Rattle.inno_db.specs.Declarations.{is_indexable, are_good_columns, are_good_keys, schema_of, declared_by, schema_declared}
use Rattle.key_codec.specs.Keys.{key_width}
use Rattle.law_stored_rows.specs.Storable.{record_width, IsKeyOn, IsStorable}

at_most : (m n : ℕ) → nat_le m n ≡ true → m ≤ n
at_most m n h = grind (arith, nat_tests)

-- ---- widths

same_width : (kind : Kind) → key_bytes kind ≡ key_width kind
same_width BigInt = refl
same_width (VarBinary size) = refl

short_width : (kind : Kind) → is_short kind ≡ true → key_width kind ≤ 33
short_width BigInt h = omega arith
short_width (VarBinary size) h = omega (arith, at_most size 32 h)

abbrev field_width : Column → ℕ
field_width column = 1 + key_width column.kind

same_sum : (columns : List Column) → sum_by (λ (c : Column). key_bytes c.kind + 1) columns ≡ sum_by field_width columns
same_sum [] = refl
same_sum (c ∷ cs) = omega (arith, same_width c.kind, same_sum cs, sum_by-cons (λ (c : Column). key_bytes c.kind + 1) c cs, sum_by-cons field_width c cs)

others_sum : (columns : List Column) (place : ℕ) (column : Column) → place < length columns
    → sum_by field_width (remove columns place) ≤ sum_by field_width columns
others_sum columns place column there = omega (
  arith,
  sum_by-append field_width (take place columns) (drop (suc place) columns),
  sum_by-take-drop field_width columns place,
  ap (λ (n : ℕ). sum_by field_width (drop n columns)) (add-one place),
  sum_by-drop_more field_width columns place column there,
)

short_record : (schema : Schema) (column : Column) → row_bytes schema.columns ≤ 1000 → schema.primary < length schema.columns → record_width schema ≤ 1024
short_record schema column few there = omega (arith, few, same_sum schema.columns, others_sum schema.columns schema.primary column there)

-- ---- the primary column

-- the primary key's column is NOT NULL
abbrev holds_no_null : List ℕ → Column → Bool
holds_no_null primary c = not (str_eq_ignore_ascii_case c.name primary) || c.not_null

no_null : (says is : Bool) → (not is || (says || is)) ≡ true
no_null says false = refl
no_null true true = refl
no_null false true = refl

all_hold_no_null : (primary : List ℕ) (definitions : List Definition) → list_all (holds_no_null primary) (columns_of primary definitions) ≡ true
all_hold_no_null primary [] = refl
all_hold_no_null primary (definition.Column name kind nullable is_primary ∷ rest) =
    and_from _ _ (no_null (says_not_null nullable) (str_eq_ignore_ascii_case name primary)) (all_hold_no_null primary rest)
all_hold_no_null primary (other ∷ rest) = all_hold_no_null primary rest

-- a column that can be indexed is there, and is short
record IsFound (columns : List Column) (place : Option ℕ) : Type 0 where
  column : Column
  at : place ≡ Some (unwrap_or place 0)
  there : slice_get columns (unwrap_or place 0) ≡ Some column
  short : is_short column.kind ≡ true

found : (columns : List Column) (place : Option ℕ) → is_indexable (column_at columns place) ≡ true → IsFound columns place
found columns None h = absurd (cc)
found columns (Some place) h = elim (slice_get columns place) as
    (λ o. slice_get columns place ≡ o → is_indexable o ≡ true → IsFound columns (Some place)) [
      | None ↦ λ is e. absurd (cc)
      | Some column ↦ λ is e. record { column = column; at = refl; there = is; short = e }
    ] refl h

takes_no_null : (columns : List Column) (primary : List ℕ) (place : ℕ) (column : Column) → list_all (holds_no_null primary) columns ≡ true
    → column_place columns primary ≡ Some place → slice_get columns place ≡ Some column → column.not_null ≡ true
takes_no_null columns primary place column all is there =
    let here = get_or_from_slice_get columns place column column there in
    let named : str_eq_ignore_ascii_case column.name primary ≡ true =
    rw here at (position-Some (λ c. str_eq_ignore_ascii_case c.name primary) columns place column is).1 in
    let passes = rw here at (AllPass-from_list_all (holds_no_null primary) columns all place column (slice_get_within columns place column there)) in
    rw named at passes

-- ---- secondary keys

abbrev can_be_indexed : List Column → List ℕ → Bool
can_be_indexed columns name = is_indexable (column_at columns (column_place columns name))

keys_on : (columns : List Column) (primary : Kind) (definitions : List Definition) → key_width primary ≤ 33
    → list_all (can_be_indexed columns) (key_columns_of definitions) ≡ true → All (IsKeyOn columns primary) (keys_of columns definitions)
keys_on columns primary [] narrow all = All-nil (IsKeyOn columns primary)
keys_on columns primary (definition.Key name column ∷ rest) narrow all =
    let here = and_parts (can_be_indexed columns column) (list_all (can_be_indexed columns) (key_columns_of rest)) all in
    let f = found columns (column_place columns column) here.0 in
    All-cons (IsKeyOn columns primary) _ (keys_of columns rest)
    (record { column = f.column; there = f.there; short = omega (arith, narrow, short_width f.column.kind f.short) })
    (keys_on columns primary rest narrow here.1)
keys_on columns primary (other ∷ rest) narrow all = keys_on columns primary rest narrow all

as_many_keys : (columns : List Column) (definitions : List Definition) → length (keys_of columns definitions) ≡ length (key_columns_of definitions)
as_many_keys columns [] = refl
as_many_keys columns (definition.Key name column ∷ rest) = omega (arith, as_many_keys columns rest)
as_many_keys columns (other ∷ rest) = as_many_keys columns rest

-- ---- the schema

few_bytes : (columns : List Column) → are_good_columns columns ≡ true → row_bytes columns ≤ 1000
few_bytes columns sound =
    let apart = and_parts (nat_le (length columns) MOST_COLUMNS) _ sound in
    let rest = and_parts (not (has_twins columns)) _ apart.1 in
    at_most (row_bytes columns) 1000 (and_parts (list_all (λ c. is_sized c.kind) columns) (nat_le (row_bytes columns) MOST_BYTES_OF_ROW) rest.1).1

storable : (table primary : List ℕ) (definitions : List Definition) → are_good_columns (columns_of primary definitions) ≡ true
    → are_good_keys primary (columns_of primary definitions) definitions ≡ true
    → IsStorable (schema_of table primary (columns_of primary definitions) definitions)
storable table primary definitions sound keyed =
    let columns = columns_of primary definitions in
    let few = and_parts (nat_le (length (key_columns_of definitions)) 4) _ keyed in
    let places = and_parts (list_all (can_be_indexed columns) (primary ∷ key_columns_of definitions)) _ few.1 in
    let indexed = and_parts (can_be_indexed columns primary) (list_all (can_be_indexed columns) (key_columns_of definitions)) places.0 in
    let f = found columns (column_place columns primary) indexed.0 in
    let narrow = short_width f.column.kind f.short in
    record {
      column = f.column;
      primary = f.there;
      not_null = takes_no_null columns primary _ f.column (all_hold_no_null primary definitions) f.at f.there;
      short = narrow;
      few = omega (arith, at_most _ _ few.0, as_many_keys columns definitions);
      keys = keys_on columns f.column.kind definitions narrow indexed.1;
      record_short = short_record (schema_of table primary columns definitions) f.column (few_bytes columns sound)
          (slice_get_within columns _ f.column f.there);
    }

by_one : (table : List ℕ) (definitions : List Definition) (primaries : List (List ℕ)) (schema : Schema)
    → declared_by table definitions primaries ≡ Some schema → IsStorable schema
by_one table definitions (primary ∷ []) schema h =
    let columns = columns_of primary definitions in
    let is = cond_some (are_good_columns columns && are_good_keys primary columns definitions) (schema_of table primary columns definitions) schema h in
    let good = and_parts (are_good_columns columns) (are_good_keys primary columns definitions) is.0 in
    subst IsStorable is.1 (storable table primary definitions good.0 good.1)
by_one table definitions primaries schema h = cc

pub declared-IsStorable : (table : List ℕ) (definitions : List Definition) (schema : Schema) → schema_declared table definitions ≡ Some schema
    → IsStorable schema
declared-IsStorable table definitions schema h = by_one table definitions (primaries_of definitions) schema h
