-- What short definitions declare can be logged.
use Rattle.std.proofs.Common.{◌≡◌, ℕ, ◌<◌, ◌≤◌, Bool, true, false, ◌&&◌, List, [], ◌∷◌, length, Option, None, Some, refl, subst, arith}
use Rattle.std.specs.Prelude.{All, nat_le, slice_get, unwrap_or, if◌then◌else◌}
use Rattle.std.specs.List.{AllByRecursion, position}
use Rattle.std.proofs.lemmas.Bool.Decides.{nat_tests}
use Rattle.std.proofs.lemmas.List.Elements.{All-get_or, All-from_recursion}
use Rattle.std.proofs.lemmas.List.Quantifiers.{position-Some}
use Rattle.std.proofs.lemmas.Option.{slice_get_within, get_or_from_slice_get}
use Rattle.inno_types.specs.declared.value.Column.{Column}
use Rattle.inno_types.specs.declared.value.Schema.{Schema}
use Rattle.inno_types.specs.declared.stmt.Definition.{Definition}
use Rattle.inno_types.specs.declared.stmt.Definition.TheVariants as definition
use Rattle.inno_db.specs.Names.{column_at, column_place}
use Rattle.inno_db.specs.declared.limits.TheConstants.{MOST_COLUMNS, MOST_KEYS}
use Rattle.inno_db.specs.Declarations.{columns_of, keys_of, key_columns_of, declared_name, are_good_columns, are_good_keys, schema_of}
use Rattle.inno_db.specs.Declarations.{declared_by, schema_declared}
use Rattle.schema_codec.specs.Schema.{IsName, IsColumn, IsKey}
use Rattle.commit_log.specs.Room.{IsLoggable}
use Rattle.law_logged_histories.proofs.Names.{IsShortDefinition}

front : (a b : Bool) → (a && b) ≡ true → a ≡ true
front true b h = refl
front false b h = absurd (cc)

back : (a b : Bool) → (a && b) ≡ true → b ≡ true
back true b h = h
back false b h = absurd (cc)

at_most : (m n : ℕ) → nat_le m n ≡ true → m ≤ n
at_most m n h = grind (arith, nat_tests)

-- ---- columns

columns_fit : (primary : List ℕ) (ds : List Definition) → AllByRecursion IsShortDefinition ds → AllByRecursion IsColumn (columns_of primary ds)
columns_fit primary [] all = tt
columns_fit primary (definition.Column name kind nullable is_primary ∷ ds) all = (all.0, columns_fit primary ds all.1)
columns_fit primary (definition.Primary column ∷ ds) all = columns_fit primary ds all.1
columns_fit primary (definition.Key name column ∷ ds) all = columns_fit primary ds all.1

-- a place is below the number of columns, and 0 stands for none
place_low : (columns : List Column) (place : Option ℕ) (test : Column → Bool) → position test columns ≡ place → length columns ≤ 16 → unwrap_or place 0 < 256
place_low columns None test is few = omega arith
place_low [] (Some place) test is few = absurd (cc)
place_low (c ∷ columns) (Some place) test is few =
    let found = position-Some test (c ∷ columns) place c is in
    let within = found.0 in
    omega (arith, within, few)

column_low : (columns : List Column) (name : List ℕ) → length columns ≤ 16 → unwrap_or (column_place columns name) 0 < 256
column_low columns name few = place_low columns (column_place columns name) _ refl few

-- ---- keys

at_short : (columns : List Column) (place : ℕ) (column : Option Column) (name : List ℕ) → slice_get columns place ≡ column → All IsColumn columns
    → IsName name → IsName (declared_name name column)
at_short columns place None name is all short = short
at_short columns place (Some column) name is all short =
    let within = slice_get_within columns place column is in
    let fits = subst IsColumn (get_or_from_slice_get columns place column column is) (All-get_or IsColumn columns place column within all) in
    fits.0

declared_short : (columns : List Column) (place : Option ℕ) (name : List ℕ) → All IsColumn columns → IsName name
    → IsName (declared_name name (column_at columns place))
declared_short columns None name all short = short
declared_short columns (Some place) name all short = at_short columns place (slice_get columns place) name refl all short

module _ (columns : List Column) (few : length columns ≤ 16) (fit : All IsColumn columns) where
  keys_fit : (ds : List Definition) → AllByRecursion IsShortDefinition ds → AllByRecursion IsKey (keys_of columns ds)
  keys_fit [] all = tt
  keys_fit (definition.Column name kind nullable is_primary ∷ ds) all = keys_fit ds all.1
  keys_fit (definition.Primary column ∷ ds) all = keys_fit ds all.1
  keys_fit (definition.Key None column ∷ ds) all =
      ((declared_short columns (column_place columns column) column fit all.0, column_low columns column few), keys_fit ds all.1)
  keys_fit (definition.Key (Some name) column ∷ ds) all = ((all.0.0, column_low columns column few), keys_fit ds all.1)

as_many_keys : (columns : List Column) (ds : List Definition) → length (keys_of columns ds) ≡ length (key_columns_of ds)
as_many_keys columns [] = refl
as_many_keys columns (definition.Column name kind nullable is_primary ∷ ds) = as_many_keys columns ds
as_many_keys columns (definition.Primary column ∷ ds) = as_many_keys columns ds
as_many_keys columns (definition.Key name column ∷ ds) = omega (arith, as_many_keys columns ds)

-- ---- the table

made : (table primary : List ℕ) (ds : List Definition) → IsName table → AllByRecursion IsShortDefinition ds
    → are_good_columns (columns_of primary ds) ≡ true → are_good_keys primary (columns_of primary ds) ds ≡ true
    → IsLoggable (schema_of table primary (columns_of primary ds) ds)
made table primary ds name short sound keyed =
    let columns = columns_of primary ds in
    let few : length columns ≤ 16 = at_most (length columns) 16 (front (nat_le (length columns) MOST_COLUMNS) _ sound) in
    let few_names : length (key_columns_of ds) ≤ 4 = at_most _ 4 (front (nat_le (length (key_columns_of ds)) MOST_KEYS) _ keyed) in
    let few_keys : length (keys_of columns ds) ≤ 4 = omega (arith, few_names, as_many_keys columns ds) in
    let fit = All-from_recursion IsColumn columns (columns_fit primary ds short) in
    let keys = All-from_recursion IsKey (keys_of columns ds) (keys_fit columns few fit ds short) in
    record {
      fits = (name, (omega (arith, few), fit), column_low columns primary few, (omega (arith, few_keys), keys));
      columns = few;
      keys = few_keys;
    }

if_some : (test : Bool) (one schema : Schema) → (if test then Some one else None) ≡ Some schema → (test ≡ true) × (one ≡ schema)
if_some true one schema h = (refl, cc)
if_some false one schema h = absurd (cc)

by_one : (table : List ℕ) (ds : List Definition) (primaries : List (List ℕ)) (schema : Schema) → IsName table → AllByRecursion IsShortDefinition ds
    → declared_by table ds primaries ≡ Some schema → IsLoggable schema
by_one table ds [] schema name short h = absurd (cc)
by_one table ds (primary ∷ another ∷ more) schema name short h = absurd (cc)
by_one table ds (primary ∷ []) schema name short h =
    let columns = columns_of primary ds in
    let is = if_some (are_good_columns columns && are_good_keys primary columns ds) (schema_of table primary columns ds) schema h in
    subst IsLoggable is.1 (made table primary ds name short (front (are_good_columns columns) _ is.0) (back (are_good_columns columns) _ is.0))

pub declared_loggable : (table : List ℕ) (ds : List Definition) (schema : Schema) → IsName table → AllByRecursion IsShortDefinition ds
    → schema_declared table ds ≡ Some schema → IsLoggable schema
declared_loggable table ds schema name short h = by_one table ds _ schema name short h
