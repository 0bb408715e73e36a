-- What a CREATE TABLE declares could be made.
use Rattle.std.proofs.Common.{◌≡◌, ℕ, inl, inr, List, [], ◌∷◌, length, Bool, true, false, ◌&&◌, ◌||◌, not, Option, Some, None, refl, sym, ap, ◌∙◌, subst, arith}
use Rattle.std.specs.Prelude.{slice_get, nat_le, unwrap_or, if◌then◌else◌}
use Rattle.std.specs.List.{list_all}
use Rattle.std.specs.Str.{str_eq_ignore_ascii_case}
use Rattle.std.proofs.lemmas.Bool.{and_from}
use Rattle.std.proofs.lemmas.List.Sums.{AllPass-from_list_all}
use Rattle.std.proofs.lemmas.List.Quantifiers.{position-Some}
use Rattle.std.proofs.lemmas.Option.{slice_get_cases, slice_get_within, get_or_from_slice_get}
use Rattle.inno_types.specs.declared.value.Column.{Column}
use Rattle.inno_types.specs.declared.value.Schema.{Schema}
use Rattle.inno_types.specs.declared.stmt.DeclaredKind.{DeclaredKind}
use Rattle.inno_types.specs.declared.stmt.DeclaredKind.TheVariants as declared
use Rattle.inno_types.specs.declared.stmt.Definition.{Definition}
use Rattle.inno_types.specs.declared.stmt.Definition.TheVariants as definition
use Rattle.inno_db.specs.Names.{column_at, column_place}
use Rattle.inno_db.specs.Declarations.{kind_of, says_not_null, columns_of, primaries_of, key_columns_of, declared_name, key_name, keys_of, is_indexable, are_good_columns, are_good_keys, schema_of, declared_by}
use Rattle.catalog.specs.Makeable.{is_name, takes_no_null, is_narrow, is_makeable}
use Rattle.catalog.specs.Declaration.{has_byte, can_be_written, IsDeclared}
use Rattle.catalog.proofs.Makeables.{both}

-- ---- columns

narrow : (kind : DeclaredKind) → has_byte kind ≡ true → is_narrow (kind_of kind) ≡ true
narrow declared.BigInt h = refl
narrow (declared.VarBinary None) h = refl
narrow (declared.VarBinary (Some size)) h = h

-- the primary key's column is NOT NULL
abbrev pub holds_no_null : List ℕ → Column → Bool
holds_no_null primary c = not (str_eq_ignore_ascii_case c.name primary) || c.not_null

no_null : (says is : Bool) → (not is || (says || is)) ≡ true
no_null true true = refl
no_null true false = refl
no_null false true = refl
no_null false false = refl

record GoodColumns (primary : List ℕ) (columns : List Column) : Type 0 where
  names : list_all (λ c. is_name c.name) columns ≡ true
  sizes : list_all (λ c. is_narrow c.kind) columns ≡ true
  primaries : list_all (holds_no_null primary) columns ≡ true

good_columns : (primary : List ℕ) (definitions : List Definition) → list_all can_be_written definitions ≡ true → GoodColumns primary (columns_of primary definitions)
good_columns primary [] h = record { names = refl; sizes = refl; primaries = refl }
good_columns primary (definition.Column name kind nullable is_primary ∷ rest) h =
    let here = both (is_name name && has_byte kind) (list_all can_be_written rest) h in
    let column = both (is_name name) (has_byte kind) here.0 in
    let others = good_columns primary rest here.1 in
    record {
      names = and_from _ _ column.0 others.names;
      sizes = and_from _ _ (narrow kind column.1) others.sizes;
      primaries = and_from _ _ (no_null (says_not_null nullable) (str_eq_ignore_ascii_case name primary)) others.primaries;
    }
good_columns primary (definition.Primary column ∷ rest) h = good_columns primary rest h
good_columns primary (definition.Key None column ∷ rest) h = good_columns primary rest h
good_columns primary (definition.Key (Some name) column ∷ rest) h = good_columns primary rest (both (is_name name) (list_all can_be_written rest) h).1

-- ---- places of columns

indexed_place : (columns : List Column) (place : Option ℕ) → is_indexable (column_at columns place) ≡ true → is_indexable (slice_get columns (unwrap_or place 0)) ≡ true
indexed_place columns None h = absurd (cc)
indexed_place columns (Some place) h = h

found_name : (name : List ℕ) (found : Option Column) → is_indexable found ≡ true → ((c : Column) → found ≡ Some c → is_name c.name ≡ true) → is_name (declared_name name found) ≡ true
found_name name None h good = absurd (cc)
found_name name (Some c) h good = good c refl

-- a column that stands there passes what all pass
passes_at : (test : Column → Bool) (columns : List Column) (place : Option ℕ) (c : Column) → list_all test columns ≡ true → column_at columns place ≡ Some c → test c ≡ true
passes_at test columns None c all is = absurd (cc)
passes_at test columns (Some place) c all is =
    ap test (sym (get_or_from_slice_get columns place c c is)) ∙ AllPass-from_list_all test columns all place c (slice_get_within columns place c is)

first_has : (columns : List Column) (primary : List ℕ) (place : Option ℕ) → column_place columns primary ≡ place → (c : Column) → column_at columns place ≡ Some c → str_eq_ignore_ascii_case c.name primary ≡ true
first_has columns primary None is c at = absurd (cc)
first_has columns primary (Some place) is c at =
    let found = position-Some (λ x. str_eq_ignore_ascii_case x.name primary) columns place c is in
    ap (λ (x : Column). str_eq_ignore_ascii_case x.name primary) (sym (get_or_from_slice_get columns place c c at)) ∙ found.1

not_null_if : (is not_null : Bool) → (not is || not_null) ≡ true → is ≡ true → not_null ≡ true
not_null_if true b h is = h
not_null_if false b h is = absurd (cc)

primary_not_null : (columns : List Column) (primary : List ℕ) (place : Option ℕ) → column_place columns primary ≡ place → list_all (holds_no_null primary) columns ≡ true → is_indexable (column_at columns place) ≡ true → takes_no_null (slice_get columns (unwrap_or place 0)) ≡ true
primary_not_null columns primary None is all h = absurd (cc)
primary_not_null columns primary (Some place) is all h = elim (slice_get_cases columns place).1 [
  | inr past ↦ absurd (let none = sym (ap is_indexable past.1) ∙ h in cc)
  | inl found ↦
      let c = found.0 in
      let passes = passes_at (holds_no_null primary) columns (Some place) c all found.2 in
      ap takes_no_null found.2 ∙ not_null_if (str_eq_ignore_ascii_case c.name primary) c.not_null passes (first_has columns primary (Some place) is c found.2)
]

-- ---- keys

record GoodKeys (columns : List Column) (definitions : List Definition) : Type 0 where
  names : list_all (λ k. is_name k.name) (keys_of columns definitions) ≡ true
  places : list_all (λ k. is_indexable (slice_get columns k.column)) (keys_of columns definitions) ≡ true
  count : length (keys_of columns definitions) ≡ length (key_columns_of definitions)

abbrev can_be_indexed : List Column → List ℕ → Bool
can_be_indexed columns name = is_indexable (column_at columns (column_place columns name))

module _ (columns : List Column) (named : list_all (λ c. is_name c.name) columns ≡ true) where
  key_named : (name : Option (List ℕ)) (column : List ℕ) (rest : List Definition) → list_all can_be_written (definition.Key name column ∷ rest) ≡ true → can_be_indexed columns column ≡ true → is_name (key_name columns name column) ≡ true
  key_named None column rest h indexed = found_name column (column_at columns (column_place columns column)) indexed (λ c is. passes_at (λ x. is_name x.name) columns (column_place columns column) c named is)
  key_named (Some name) column rest h indexed = (both (is_name name) (list_all can_be_written rest) h).0

  written_rest : (name : Option (List ℕ)) (column : List ℕ) (rest : List Definition) → list_all can_be_written (definition.Key name column ∷ rest) ≡ true → list_all can_be_written rest ≡ true
  written_rest None column rest h = h
  written_rest (Some name) column rest h = (both (is_name name) (list_all can_be_written rest) h).1

  good_keys : (definitions : List Definition) → list_all can_be_written definitions ≡ true → list_all (can_be_indexed columns) (key_columns_of definitions) ≡ true → GoodKeys columns definitions
  good_keys [] h indexed = record { names = refl; places = refl; count = refl }
  good_keys (definition.Column name kind nullable is_primary ∷ rest) h indexed =
      let others = good_keys rest (both (is_name name && has_byte kind) (list_all can_be_written rest) h).1 indexed in
      record { names = others.names; places = others.places; count = others.count }
  good_keys (definition.Primary column ∷ rest) h indexed =
      let others = good_keys rest h indexed in
      record { names = others.names; places = others.places; count = others.count }
  good_keys (definition.Key name column ∷ rest) h indexed =
      let here = both (can_be_indexed columns column) (list_all (can_be_indexed columns) (key_columns_of rest)) indexed in
      let others = good_keys rest (written_rest name column rest h) here.1 in
      record {
        names = and_from _ _ (key_named name column rest h here.0) others.names;
        places = and_from _ _ (indexed_place columns (column_place columns column) here.0) others.places;
        count = omega (arith, others.count);
      }

-- ---- the schema

makeable : (table primary : List ℕ) (definitions : List Definition) (columns : List Column) → is_name table ≡ true → list_all can_be_written definitions ≡ true → GoodColumns primary columns
    → are_good_columns columns ≡ true → are_good_keys primary columns definitions ≡ true → is_makeable (schema_of table primary columns definitions) ≡ true
makeable table primary definitions columns named written good sound keyed =
    let few = both (nat_le (length (key_columns_of definitions)) 4) _ keyed in
    let places = both (list_all (can_be_indexed columns) (primary ∷ key_columns_of definitions)) _ few.1 in
    let indexed = both (can_be_indexed columns primary) (list_all (can_be_indexed columns) (key_columns_of definitions)) places.0 in
    let keys = good_keys columns good.names definitions written indexed.1 in
    and_from _ _ sound
    (and_from _ _ good.sizes
    (and_from _ _ (and_from _ _ named (and_from _ _ good.names keys.names))
    (and_from _ _ (and_from _ _ (indexed_place columns (column_place columns primary) indexed.0) (primary_not_null columns primary (column_place columns primary) refl good.primaries indexed.0))
    (and_from _ _ (ap (λ (n : ℕ). nat_le n 4) keys.count ∙ few.0) keys.places))))

if_some : (test : Bool) (schema s : Schema) → (if test then Some schema else None) ≡ Some s → (test ≡ true) × (schema ≡ s)
if_some true schema s h = (refl, cc)
if_some false schema s h = absurd (cc)

by_one : (table : List ℕ) (definitions : List Definition) (primaries : List (List ℕ)) (s : Schema) → is_name table ≡ true → list_all can_be_written definitions ≡ true → declared_by table definitions primaries ≡ Some s → is_makeable s ≡ true
by_one table definitions [] s named written h = absurd (cc)
by_one table definitions (primary ∷ another ∷ more) s named written h = absurd (cc)
by_one table definitions (primary ∷ []) s named written h =
    let columns = columns_of primary definitions in
    let is = if_some (are_good_columns columns && are_good_keys primary columns definitions) (schema_of table primary columns definitions) s h in
    let good = both (are_good_columns columns) (are_good_keys primary columns definitions) is.0 in
    subst (λ (x : Schema). is_makeable x ≡ true) is.1 (makeable table primary definitions columns named written (good_columns primary definitions written) good.0 good.1)

pub declared_could_be_made : (s : Schema) → IsDeclared s → is_makeable s ≡ true
declared_could_be_made s d = by_one s.name d.definitions (primaries_of d.definitions) s d.named d.written d.declared
