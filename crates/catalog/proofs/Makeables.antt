-- What is known of a schema that a CREATE TABLE could make: its numbers fit their fields, and its entry fits a page.
use Rattle.std.proofs.Common.{◌≡◌, ℕ, ◌+◌, ◌*◌, ◌<◌, ◌≤◌, inl, inr, List, [], ◌∷◌, ◌++◌, length, get_or, Bool, true, false, ◌&&◌, refl, sym, ap, ◌∙◌, arith, length-append}
use Rattle.std.specs.Prelude.{All, slice_get, nat_le, nat_lt}
use Rattle.std.specs.List.{flat_map}
use Rattle.std.proofs.Math.Nat.{mul-suc}
use Rattle.std.proofs.lemmas.Bool.Decides.{nat_tests}
use Rattle.std.proofs.lemmas.List.Elements.{All-head, All-tail}
use Rattle.std.proofs.lemmas.List.Sums.{AllPass-from_list_all}
use Rattle.std.proofs.lemmas.Option.{slice_get_cases}
use Rattle.inno_types.specs.declared.value.Kind.{Kind}
use Rattle.inno_types.specs.declared.value.Kind.TheVariants.{BigInt, VarBinary}
use Rattle.inno_types.specs.declared.value.Column.{Column}
use Rattle.inno_types.specs.declared.value.Key.{Key}
use Rattle.inno_types.specs.declared.value.Schema.{Schema}
use Rattle.inno_db.specs.Declarations.{is_indexable, row_bytes}
use Rattle.schema_codec.specs.Numbers.{u32_bytes}
use Rattle.schema_codec.specs.Schema.{counted, name_bytes, kind_bytes, flag_bytes, column_bytes, key_bytes as key_entry, schema_bytes, IsKind, IsColumn, IsKey, IsSchema}
use Rattle.schema_codec.proofs.Lengths.{length-u32}
use Rattle.catalog.specs.Makeable.{is_name, is_narrow, is_makeable}

pub both : (a b : Bool) → (a && b) ≡ true → (a ≡ true) × (b ≡ true)
both true b h = (refl, h)
both false b h = absurd (cc)

at_most : (m n : ℕ) → nat_le m n ≡ true → m ≤ n
at_most m n h = grind (arith, nat_tests)

-- what its parts are
pub record Parts (s : Schema) : Type 0 where
  pub columns : length s.columns ≤ 16
  pub row : row_bytes s.columns ≤ 1000
  pub narrow : All (λ c. is_narrow c.kind ≡ true) s.columns
  pub name : is_name s.name ≡ true
  pub column_names : All (λ c. is_name c.name ≡ true) s.columns
  pub key_names : All (λ k. is_name k.name ≡ true) s.keys
  pub primary : is_indexable (slice_get s.columns s.primary) ≡ true
  pub keys : length s.keys ≤ 4
  pub key_columns : All (λ k. is_indexable (slice_get s.columns k.column) ≡ true) s.keys

pub parts_of : (s : Schema) → is_makeable s ≡ true → Parts s
parts_of s made =
    let columns_rest = both _ _ made in
    let few_rest = both _ _ columns_rest.0 in
    let twins_rest = both _ _ few_rest.1 in
    let sized_row = both _ _ twins_rest.1 in
    let narrow_rest = both _ _ columns_rest.1 in
    let named_rest = both _ _ narrow_rest.1 in
    let name_rest = both _ _ named_rest.0 in
    let names = both _ _ name_rest.1 in
    let primary_keys = both _ _ named_rest.1 in
    let primary = both _ _ primary_keys.0 in
    let keys = both _ _ primary_keys.1 in
    record {
      columns = at_most _ _ few_rest.0;
      row = at_most _ _ sized_row.1;
      narrow = AllPass-from_list_all (λ c. is_narrow c.kind) s.columns narrow_rest.0;
      name = name_rest.0;
      column_names = AllPass-from_list_all (λ c. is_name c.name) s.columns names.0;
      key_names = AllPass-from_list_all (λ k. is_name k.name) s.keys names.1;
      primary = primary.0;
      keys = at_most _ _ keys.0;
      key_columns = AllPass-from_list_all (λ k. is_indexable (slice_get s.columns k.column)) s.keys keys.1;
    }

-- ---- fields

short_name : (name : List ℕ) → is_name name ≡ true → length name ≤ 64
short_name name h = at_most (length name) 64 (both (nat_lt 0 (length name)) (nat_le (length name) 64) h).1

small_kind : (kind : Kind) → is_narrow kind ≡ true → IsKind kind
small_kind BigInt h = tt
small_kind (VarBinary size) h = omega (arith, at_most size 255 h)

-- a place where an indexed column stands
pub place_within : (columns : List Column) (place : ℕ) → is_indexable (slice_get columns place) ≡ true → place < length columns
place_within columns place h = elim (slice_get_cases columns place).1 [
  | inl found ↦ found.1
  | inr past ↦ absurd (let none = sym (ap is_indexable past.1) ∙ h in cc)
]

pub fits : (s : Schema) → is_makeable s ≡ true → IsSchema s
fits s made =
    let parts = parts_of s made in
    let columns : All IsColumn s.columns = λ k d below.
    (omega (arith, short_name (get_or s.columns k d).name (parts.column_names k d below)), small_kind (get_or s.columns k d).kind (parts.narrow k d below)) in
    let keys : All IsKey s.keys = λ k d below.
    (omega (arith, short_name (get_or s.keys k d).name (parts.key_names k d below)), omega (arith, parts.columns, place_within s.columns (get_or s.keys k d).column (parts.key_columns k d below))) in (
      omega (arith, short_name s.name parts.name),
      (omega (arith, parts.columns), columns),
      omega (arith, parts.columns, place_within s.columns s.primary parts.primary),
      (omega (arith, parts.keys), keys),
    )

-- ---- lengths

kind_len : (kind : Kind) → length (kind_bytes kind) ≡ 2
kind_len BigInt = refl
kind_len (VarBinary size) = refl

flag_len : (flag : Bool) → length (flag_bytes flag) ≡ 1
flag_len true = refl
flag_len false = refl

column_len : (c : Column) → is_name c.name ≡ true → length (column_bytes c) ≤ 68
column_len c h = omega (
  arith,
  short_name c.name h,
  kind_len c.kind,
  flag_len c.not_null,
  length-append (name_bytes c.name ++ kind_bytes c.kind) (flag_bytes c.not_null),
  length-append (name_bytes c.name) (kind_bytes c.kind),
)

key_len : (k : Key) → is_name k.name ≡ true → length (key_entry k) ≤ 66
key_len k h = omega (arith, short_name k.name h, length-append (name_bytes k.name) (k.column ∷ []))

flat_len : {A : Type 0} (spell : A → List ℕ) (most : ℕ) (xs : List A) → All (λ x. length (spell x) ≤ most) xs → length (flat_map spell xs) ≤ most * length xs
flat_len spell most [] all = omega arith
flat_len spell most (x ∷ xs) all = omega (
  arith,
  length-append (spell x) (flat_map spell xs),
  flat_len spell most xs (All-tail (λ x. length (spell x) ≤ most) x xs all),
  All-head (λ x. length (spell x) ≤ most) x xs all,
  mul-suc most (length xs),
)

pub entry_len : (s : Schema) (roots : List ℕ) → is_makeable s ≡ true → length roots ≡ 1 + length s.keys → length (schema_bytes s ++ flat_map u32_bytes roots) ≤ 2000
entry_len s roots made count =
    let parts = parts_of s made in
    let columns = flat_len column_bytes 68 s.columns (λ k d below. column_len (get_or s.columns k d) (parts.column_names k d below)) in
    let keys = flat_len key_entry 66 s.keys (λ k d below. key_len (get_or s.keys k d) (parts.key_names k d below)) in
    let pages = flat_len u32_bytes 4 roots (λ k d below. omega (arith, length-u32 (get_or roots k d))) in
    omega (
      arith,
      columns,
      keys,
      pages,
      count,
      parts.columns,
      parts.keys,
      short_name s.name parts.name,
      length-append (schema_bytes s) (flat_map u32_bytes roots),
      length-append (name_bytes s.name ++ counted column_bytes s.columns ++ (s.primary ∷ [])) (counted key_entry s.keys),
      length-append (name_bytes s.name ++ counted column_bytes s.columns) (s.primary ∷ []),
      length-append (name_bytes s.name) (counted column_bytes s.columns),
    )
