-- A schema that could be made is declared by a CREATE TABLE: its columns, its primary key and its keys, each written out.
use Rattle.std.proofs.Common.{◌≡◌, ℕ, zero, suc, ◌<◌, inl, inr, List, [], ◌∷◌, ◌++◌, length, get_or, map, Bool, true, false, ◌&&◌, ◌||◌, not, Option, Some, None, refl, sym, ap, ◌∙◌, subst, arith}
use Rattle.std.specs.Prelude.{slice_get, nat_le, nat_lt, unwrap_or, if◌then◌else◌}
use Rattle.std.specs.List.{list_all, list_any, flat_map, position_or_len}
use Rattle.std.specs.Str.{str_eq_ignore_ascii_case, str_to_ascii_lowercase}
use Rattle.std.proofs.lemmas.Bool.{and_from, cases_lt}
use Rattle.std.proofs.lemmas.Bool.Decides.{nat_tests}
use Rattle.std.proofs.lemmas.Slice.Eq.{bytes_eq-Decides}
use Rattle.std.proofs.lemmas.List.{append-nil}
use Rattle.std.proofs.lemmas.List.Concat.{flat_map-append}
use Rattle.std.proofs.lemmas.List.Folds.{list_all-append, list_any-append, list_any_at}
use Rattle.std.proofs.lemmas.List.Sums.{list_all-from_AllPass, position_or_len_is}
use Rattle.std.proofs.lemmas.Option.{slice_get_cases, get_or_from_slice_get}
use Rattle.inno_types.specs.declared.value.Kind.{Kind}
use Rattle.inno_types.specs.declared.value.Kind.TheVariants.{BigInt, VarBinary}
use Rattle.inno_types.specs.declared.value.Column.{Column}
use Rattle.inno_types.specs.declared.value.Key.{Key}
use Rattle.inno_types.specs.declared.value.Schema.{Schema}
use Rattle.inno_types.specs.declared.stmt.DeclaredKind.{DeclaredKind}
use Rattle.inno_types.specs.declared.stmt.DeclaredKind.TheVariants as declared
use Rattle.inno_types.specs.declared.stmt.Definition.{Definition}
use Rattle.inno_types.specs.declared.stmt.Definition.TheVariants as definition
use Rattle.inno_db.specs.Names.{column_at, column_place}
use Rattle.inno_db.specs.Declarations.{has_twins, kind_of, column_of, columns_of, primary_of, primaries_of, key_column_of, key_columns_of, declares_null, key_of, keys_of, is_indexable, are_good_columns, are_good_keys, schema_of, schema_if, declared_by, schema_declared}
use Rattle.catalog.specs.Makeable.{is_name, takes_no_null, is_narrow, is_makeable}
use Rattle.catalog.specs.Declaration.{has_byte, can_be_written, IsDeclared}
use Rattle.catalog.proofs.Makeables.{both}
use Rattle.catalog.proofs.Declaring.{holds_no_null}

-- ---- the definitions

abbrev declared_kind : Kind → DeclaredKind
declared_kind BigInt = declared.BigInt
declared_kind (VarBinary size) = declared.VarBinary (Some size)

abbrev as_column : Column → Definition
as_column c = definition.Column c.name (declared_kind c.kind) (Some (not c.not_null)) false

abbrev name_at : Option Column → List ℕ
name_at None = []
name_at (Some c) = c.name

abbrev as_key : List Column → Key → Definition
as_key columns k = definition.Key (Some k.name) (name_at (slice_get columns k.column))

abbrev rest_of : Schema → List Definition
rest_of s = definition.Primary (name_at (slice_get s.columns s.primary)) ∷ map (as_key s.columns) s.keys

abbrev definitions_of : Schema → List Definition
definitions_of s = map as_column s.columns ++ rest_of s

either : (is strict : Bool) → (is ≡ true → strict ≡ true) → (not is || strict) ≡ true
either true strict h = h refl
either false strict h = refl

strict_not_null : (is strict : Bool) → (not is || strict) ≡ true → (is && not strict) ≡ false
strict_not_null true true h = refl
strict_not_null true false h = absurd (cc)
strict_not_null false strict h = refl

not_true : (b : Bool) → not b ≡ true → b ≡ false
not_true true h = absurd (cc)
not_true false h = refl

byte : (kind : Kind) → is_narrow kind ≡ true → has_byte (declared_kind kind) ≡ true
byte BigInt h = refl
byte (VarBinary size) h = h

-- ---- names that differ

same_name : (a b : List ℕ) → str_eq_ignore_ascii_case a b ≡ true → str_eq_ignore_ascii_case b a ≡ true
same_name a b h =
    let lower_a = str_to_ascii_lowercase a in
    let lower_b = str_to_ascii_lowercase b in
    (bytes_eq-Decides lower_b lower_a).1 (sym ((bytes_eq-Decides lower_a lower_b).0 h))

own_name : (a : List ℕ) → str_eq_ignore_ascii_case a a ≡ true
own_name a = (bytes_eq-Decides (str_to_ascii_lowercase a) (str_to_ascii_lowercase a)).1 refl

-- what isn't true is false
out : (b : Bool) → (b ≡ true → ⊥) → b ≡ false
out true h = absurd (h refl)
out false h = refl

or_neither : (a b : Bool) → (a || b) ≡ false → (a ≡ false) × (b ≡ false)
or_neither true b h = absurd (cc)
or_neither false b h = (refl, h)

abbrev is_called : List ℕ → Column → Bool
is_called name c = str_eq_ignore_ascii_case c.name name

not_later : (columns : List Column) (i j : ℕ) (c d : Column) → has_twins columns ≡ false → i < j → j < length columns → is_called (get_or columns i c).name (get_or columns j d) ≡ true → ⊥
not_later [] i j c d twins before inside h = absurd (omega arith)
not_later (x ∷ xs) zero zero c d twins before inside h = absurd (omega arith)
not_later (x ∷ xs) zero (suc j) c d twins before inside h =
    let none = (or_neither (list_any (is_called x.name) xs) (has_twins xs) twins).0 in
    let some = list_any_at (is_called x.name) xs j d (omega arith) h in
    let bad = sym none ∙ some in cc
not_later (x ∷ xs) (suc i) zero c d twins before inside h = absurd (omega arith)
not_later (x ∷ xs) (suc i) (suc j) c d twins before inside h = not_later xs i j c d (or_neither (list_any (is_called x.name) xs) (has_twins xs) twins).1 (omega arith) (omega arith) h

module _ (columns : List Column) (twins : has_twins columns ≡ false) where
  -- the first column of a column's name is that column
  place_is : (k : ℕ) (c : Column) → slice_get columns k ≡ Some c → k < length columns → column_place columns c.name ≡ Some k
  place_is k c at inside =
      let here = get_or_from_slice_get columns k c c at in
      let first : position_or_len (is_called c.name) columns ≡ k = position_or_len_is (is_called c.name) columns k c (omega arith)
      (λ i before. out (is_called c.name (get_or columns i c)) (λ h. not_later columns i k c c twins before inside (subst (λ (x : Column). is_called (get_or columns i c).name x ≡ true) (sym here) (same_name (get_or columns i c).name c.name h))))
      (λ below. subst (λ (x : Column). is_called c.name x ≡ true) (sym here) (own_name c.name)) in
      let test : nat_lt k (length columns) ≡ true = grind (arith, nat_tests) in
      subst (λ (n : ℕ). (if nat_lt n (length columns) then Some n else None) ≡ Some k) (sym first) (ap (λ (b : Bool). if b then Some k else None) test)

  -- a column of that name is that column
  called_is : (k i : ℕ) (c d : Column) → slice_get columns k ≡ Some c → k < length columns → i < length columns → is_called c.name (get_or columns i d) ≡ true → get_or columns i d ≡ c
  called_is k i c d at below inside h =
      let here = get_or_from_slice_get columns k c c at in
      elim (cases_lt i k) [
        | inl before ↦ absurd (not_later columns i k d c twins before below (subst (λ (x : Column). is_called (get_or columns i d).name x ≡ true) (sym here) (same_name (get_or columns i d).name c.name h)))
        | inr rest ↦ elim (cases_lt k i) [
          | inl behind ↦ absurd (not_later columns k i c d twins behind inside (subst (λ (x : Column). is_called x.name (get_or columns i d) ≡ true) (sym here) h))
          | inr others ↦ ap (λ (n : ℕ). get_or columns n d) {x = i} {y = k} (omega arith) ∙ get_or_from_slice_get columns k c d at
        ]
      ]

  -- a column of the primary column's name takes no NULL
  primary_alone : (k : ℕ) (c : Column) → slice_get columns k ≡ Some c → k < length columns → c.not_null ≡ true → list_all (holds_no_null c.name) columns ≡ true
  primary_alone k c at below strict = list_all-from_AllPass (holds_no_null c.name) columns (λ i d inside.
      either (is_called c.name (get_or columns i d)) (get_or columns i d).not_null (λ h. ap (λ (x : Column). x.not_null) (called_is k i c d at below inside h) ∙ strict))

-- ---- what the definitions declare

kind_back : (kind : Kind) → kind_of (declared_kind kind) ≡ kind
kind_back BigInt = refl
kind_back (VarBinary size) = refl

null_back : (is not_null : Bool) → (not is || not_null) ≡ true → (not (not not_null) || is) ≡ not_null
null_back true true h = refl
null_back true false h = absurd (cc)
null_back false true h = refl
null_back false false h = refl

column_back : (primary : List ℕ) (c : Column) → holds_no_null primary c ≡ true → column_of primary (as_column c) ≡ c ∷ []
column_back primary c h =
    let kind = kind_back c.kind in
    let strict = null_back (str_eq_ignore_ascii_case c.name primary) c.not_null h in
    ap (λ (k : Kind). record { name = c.name; kind = k; not_null = not (not c.not_null) || str_eq_ignore_ascii_case c.name primary } ∷ []) kind
    ∙ ap (λ (b : Bool). record { name = c.name; kind = c.kind; not_null = b } ∷ []) strict

columns_back : (primary : List ℕ) (columns : List Column) → list_all (holds_no_null primary) columns ≡ true → flat_map (column_of primary) (map as_column columns) ≡ columns
columns_back primary [] h = refl
columns_back primary (c ∷ cs) h =
    let here = both (holds_no_null primary c) (list_all (holds_no_null primary) cs) h in
    ap (λ (l : List Column). l ++ flat_map (column_of primary) (map as_column cs)) (column_back primary c here.0) ∙ ap (λ (l : List Column). c ∷ l) (columns_back primary cs here.1)

-- a word that finds nothing in columns or keys
none_of_columns : {A : Type 0} (f : Definition → List A) (columns : List Column) → ((c : Column) → f (as_column c) ≡ []) → flat_map f (map as_column columns) ≡ []
none_of_columns {A = A} f [] none = refl
none_of_columns {A = A} f (c ∷ cs) none = ap (λ (l : List A). l ++ flat_map f (map as_column cs)) (none c) ∙ none_of_columns f cs none

none_of_keys : {A : Type 0} (f : Definition → List A) (columns : List Column) (keys : List Key) → ((k : Key) → f (as_key columns k) ≡ []) → flat_map f (map (as_key columns) keys) ≡ []
none_of_keys {A = A} f columns [] none = refl
none_of_keys {A = A} f columns (k ∷ ks) none = ap (λ (l : List A). l ++ flat_map f (map (as_key columns) ks)) (none k) ∙ none_of_keys f columns ks none

module _ (s : Schema) where
  abbrev primary : List ℕ
  primary = name_at (slice_get s.columns s.primary)

  primaries_back : primaries_of (definitions_of s) ≡ primary ∷ []
  primaries_back =
      flat_map-append primary_of (map as_column s.columns) (rest_of s)
      ∙ ap (λ (l : List (List ℕ)). l ++ flat_map primary_of (rest_of s)) (none_of_columns primary_of s.columns (λ c. refl))
      ∙ ap (λ (l : List (List ℕ)). primary ∷ l) (none_of_keys primary_of s.columns s.keys (λ k. refl))

  all_columns_back : list_all (holds_no_null primary) s.columns ≡ true → columns_of primary (definitions_of s) ≡ s.columns
  all_columns_back strict =
      flat_map-append (column_of primary) (map as_column s.columns) (rest_of s)
      ∙ ap (λ (l : List Column). l ++ flat_map (column_of primary) (rest_of s)) (columns_back primary s.columns strict)
      ∙ ap (λ (l : List Column). s.columns ++ l) (none_of_keys (column_of primary) s.columns s.keys (λ k. refl))
      ∙ append-nil s.columns

  key_columns_back : key_columns_of (definitions_of s) ≡ flat_map key_column_of (map (as_key s.columns) s.keys)
  key_columns_back =
      flat_map-append key_column_of (map as_column s.columns) (rest_of s)
      ∙ ap (λ (l : List (List ℕ)). l ++ flat_map key_column_of (rest_of s)) (none_of_columns key_column_of s.columns (λ c. refl))

  keys_behind : keys_of s.columns (definitions_of s) ≡ flat_map (key_of s.columns) (map (as_key s.columns) s.keys)
  keys_behind =
      flat_map-append (key_of s.columns) (map as_column s.columns) (rest_of s)
      ∙ ap (λ (l : List Key). l ++ flat_map (key_of s.columns) (rest_of s)) (none_of_columns (key_of s.columns) s.columns (λ c. refl))

  abbrev can_be_indexed : List ℕ → Bool
  can_be_indexed name = is_indexable (column_at s.columns (column_place s.columns name))

  module _ (twins : has_twins s.columns ≡ false) where
    -- an indexed column is found by its name
    found : (place : ℕ) → is_indexable (slice_get s.columns place) ≡ true → column_place s.columns (name_at (slice_get s.columns place)) ≡ Some place
    found place indexed = elim (slice_get_cases s.columns place).1 [
      | inr past ↦ absurd (let none = sym (ap is_indexable past.1) ∙ indexed in cc)
      | inl at ↦ ap (λ (c : Option Column). column_place s.columns (name_at c)) at.2 ∙ place_is s.columns twins place at.0 at.2 at.1
    ]

    found_indexed : (place : ℕ) → is_indexable (slice_get s.columns place) ≡ true → can_be_indexed (name_at (slice_get s.columns place)) ≡ true
    found_indexed place indexed = ap (λ (p : Option ℕ). is_indexable (column_at s.columns p)) (found place indexed) ∙ indexed

    key_back : (keys : List Key) → list_all (λ k. is_indexable (slice_get s.columns k.column)) keys ≡ true → flat_map (key_of s.columns) (map (as_key s.columns) keys) ≡ keys
    key_back [] h = refl
    key_back (k ∷ ks) h =
        let here = both (is_indexable (slice_get s.columns k.column)) _ h in
        ap (λ (p : Option ℕ). record { name = k.name; column = unwrap_or p 0 } ∷ flat_map (key_of s.columns) (map (as_key s.columns) ks)) (found k.column here.0)
        ∙ ap (λ (l : List Key). k ∷ l) (key_back ks here.1)

    keys_indexed : (keys : List Key) → list_all (λ k. is_indexable (slice_get s.columns k.column)) keys ≡ true → list_all can_be_indexed (flat_map key_column_of (map (as_key s.columns) keys)) ≡ true
    keys_indexed [] h = refl
    keys_indexed (k ∷ ks) h =
        let here = both (is_indexable (slice_get s.columns k.column)) _ h in
        and_from _ _ (found_indexed k.column here.0) (keys_indexed ks here.1)

  keys_count : (keys : List Key) → length (flat_map key_column_of (map (as_key s.columns) keys)) ≡ length keys
  keys_count [] = refl
  keys_count (k ∷ ks) = omega (arith, keys_count ks)

  columns_written : (columns : List Column) → list_all (λ c. is_name c.name) columns ≡ true → list_all (λ c. is_narrow c.kind) columns ≡ true → list_all can_be_written (map as_column columns) ≡ true
  columns_written [] names sizes = refl
  columns_written (c ∷ cs) names sizes =
      let name = both (is_name c.name) (list_all (λ x. is_name x.name) cs) names in
      let size = both (is_narrow c.kind) (list_all (λ x. is_narrow x.kind) cs) sizes in
      and_from _ _ (and_from _ _ name.0 (byte c.kind size.0)) (columns_written cs name.1 size.1)

  keys_written : (keys : List Key) → list_all (λ k. is_name k.name) keys ≡ true → list_all can_be_written (map (as_key s.columns) keys) ≡ true
  keys_written [] names = refl
  keys_written (k ∷ ks) names = let name = both (is_name k.name) (list_all (λ x. is_name x.name) ks) names in and_from _ _ name.0 (keys_written ks name.1)

  no_null_in_columns : (columns : List Column) → list_all (holds_no_null primary) columns ≡ true → list_any (declares_null primary) (map as_column columns) ≡ false
  no_null_in_columns [] h = refl
  no_null_in_columns (c ∷ cs) h =
      let here = both (holds_no_null primary c) (list_all (holds_no_null primary) cs) h in
      ap (λ (b : Bool). b || list_any (declares_null primary) (map as_column cs)) (strict_not_null (str_eq_ignore_ascii_case c.name primary) c.not_null here.0) ∙ no_null_in_columns cs here.1

  no_null_in_keys : (keys : List Key) → list_any (declares_null primary) (map (as_key s.columns) keys) ≡ false
  no_null_in_keys [] = refl
  no_null_in_keys (k ∷ ks) = no_null_in_keys ks

  no_null_declared : list_all (holds_no_null primary) s.columns ≡ true → list_any (declares_null primary) (definitions_of s) ≡ false
  no_null_declared h =
      list_any-append (declares_null primary) (map as_column s.columns) (rest_of s)
      ∙ ap (λ (b : Bool). b || list_any (declares_null primary) (rest_of s)) (no_null_in_columns s.columns h)
      ∙ no_null_in_keys s.keys

  -- ---- the schema

  record Facts : Type 0 where
    sound : are_good_columns s.columns ≡ true
    twins : has_twins s.columns ≡ false
    sizes : list_all (λ c. is_narrow c.kind) s.columns ≡ true
    name : is_name s.name ≡ true
    column_names : list_all (λ c. is_name c.name) s.columns ≡ true
    key_names : list_all (λ k. is_name k.name) s.keys ≡ true
    indexed : is_indexable (slice_get s.columns s.primary) ≡ true
    strict : takes_no_null (slice_get s.columns s.primary) ≡ true
    few : nat_le (length s.keys) 4 ≡ true
    places : list_all (λ k. is_indexable (slice_get s.columns k.column)) s.keys ≡ true

  facts : is_makeable s ≡ true → Facts
  facts made =
      let columns_rest = both _ _ made in
      let few_rest = both _ _ columns_rest.0 in
      let twins_rest = both _ _ few_rest.1 in
      let narrow_rest = both _ _ columns_rest.1 in
      let named_rest = both _ _ narrow_rest.1 in
      let name_rest = both _ _ named_rest.0 in
      let names = both _ _ name_rest.1 in
      let primary_keys = both _ _ named_rest.1 in
      let primary_parts = both _ _ primary_keys.0 in
      let keys = both _ _ primary_keys.1 in
      record {
        sound = columns_rest.0;
        twins = not_true _ twins_rest.0;
        sizes = narrow_rest.0;
        name = name_rest.0;
        column_names = names.0;
        key_names = names.1;
        indexed = primary_parts.0;
        strict = primary_parts.1;
        few = keys.0;
        places = keys.1;
      }

  module _ (f : Facts) where
    all_strict : list_all (holds_no_null primary) s.columns ≡ true
    all_strict = elim (slice_get_cases s.columns s.primary).1 [
      | inr past ↦ absurd (let none = sym (ap is_indexable past.1) ∙ f.indexed in cc)
      | inl at ↦ subst (λ (c : Option Column). list_all (holds_no_null (name_at c)) s.columns ≡ true) (sym at.2) (primary_alone s.columns f.twins s.primary at.0 at.2 at.1 (sym (ap takes_no_null at.2) ∙ f.strict))
    ]

    good_keys : are_good_keys primary s.columns (definitions_of s) ≡ true
    good_keys =
        and_from _ _ (ap (λ (l : List (List ℕ)). nat_le (length l) 4) key_columns_back ∙ ap (λ (n : ℕ). nat_le n 4) (keys_count s.keys) ∙ f.few)
        (and_from _ _ (and_from _ _ (found_indexed f.twins s.primary f.indexed) (ap (list_all can_be_indexed) key_columns_back ∙ keys_indexed f.twins s.keys f.places)) (ap not (no_null_declared all_strict)))

    schema_back : schema_of s.name primary s.columns (definitions_of s) ≡ s
    schema_back =
        ap (λ (p : Option ℕ). record { name = s.name; columns = s.columns; primary = unwrap_or p 0; keys = keys_of s.columns (definitions_of s) }) (found f.twins s.primary f.indexed)
        ∙ ap (λ (ks : List Key). record { name = s.name; columns = s.columns; primary = s.primary; keys = ks }) (keys_behind ∙ key_back f.twins s.keys f.places)

    declared_back : schema_declared s.name (definitions_of s) ≡ Some s
    declared_back =
        ap (declared_by s.name (definitions_of s)) primaries_back
        ∙ ap (schema_if s.name (definitions_of s) primary) (all_columns_back all_strict)
        ∙ ap (λ (b : Bool). if b then Some (schema_of s.name primary s.columns (definitions_of s)) else None) (and_from _ _ f.sound good_keys)
        ∙ ap (λ (x : Schema). Some x) schema_back

    declares : IsDeclared s
    declares = record {
      definitions = definitions_of s;
      named = f.name;
      written = list_all-append can_be_written (map as_column s.columns) (rest_of s) ∙ and_from _ _ (columns_written s.columns f.column_names f.sizes) (keys_written s.keys f.key_names);
      declared = declared_back;
    }

pub could_be_declared : (s : Schema) → is_makeable s ≡ true → IsDeclared s
could_be_declared s made = declares s (facts s made)
