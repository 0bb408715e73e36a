-- The table that a CREATE TABLE declares, or that it declares none.
use Rattle.std.specs.Prelude.{ℕ, ◌+◌, ◌-◌, Bool, true, false, not, ◌&&◌, ◌||◌, ◌==◌, nat_le, List, [], ◌∷◌, length, sum_by, flat_map, Option, Some, None, unwrap_or, if◌then◌else◌}
use Rattle.std.specs.List.{list_all, list_any}
use Rattle.std.specs.Str.{str_eq_ignore_ascii_case}
use Rattle.inno_types.specs.declared.value.Kind.{Kind}
use Rattle.inno_types.specs.declared.value.Kind.TheVariants.{BigInt, VarBinary}
use Rattle.inno_types.specs.declared.value.Column.{Column}
use Rattle.inno_types.specs.declared.value.Key.{Key}
use Rattle.inno_types.specs.declared.value.Schema.{Schema}
use Rattle.inno_types.specs.declared.stmt.DeclaredKind.{DeclaredKind}
use Rattle.inno_types.specs.declared.stmt.DeclaredKind.TheVariants as declared
use Rattle.inno_types.specs.declared.stmt.Definition.{Definition}
use Rattle.inno_types.specs.declared.stmt.Definition.TheVariants as definition
use Rattle.inno_db.specs.declared.limits.TheConstants.{MOST_COLUMNS, MOST_KEYS, MOST_BYTES_OF_INDEX, MOST_BYTES_OF_ROW}
use Rattle.inno_db.specs.Names.{column_at, column_place}

-- a column's name twice
abbrev pub has_twins : List Column → Bool
has_twins [] = false
has_twins (column ∷ columns) = list_any (λ c. str_eq_ignore_ascii_case c.name column.name) columns || has_twins columns

-- the size of a VARBINARY that is above 255 is not kept, and such a column is refused like one of size 0
abbrev pub kind_of : DeclaredKind → Kind
kind_of declared.BigInt = BigInt
kind_of (declared.VarBinary size) = VarBinary (unwrap_or size 0)

abbrev pub says_not_null : Option Bool → Bool
says_not_null None = false
says_not_null (Some nullable) = not nullable

abbrev pub says_null : Option Bool → Bool
says_null None = false
says_null (Some nullable) = nullable

-- the column of a definition, if it is of a column; the primary key's is NOT NULL
abbrev pub column_of : List ℕ → Definition → List Column
column_of primary (definition.Column name kind nullable is_primary) =
    record { name = name; kind = kind_of kind; not_null = says_not_null nullable || str_eq_ignore_ascii_case name primary } ∷ []
column_of primary (definition.Primary column) = []
column_of primary (definition.Key name column) = []

abbrev pub columns_of : List ℕ → List Definition → List Column
columns_of primary definitions = flat_map (column_of primary) definitions

-- the column that a definition makes the primary key
abbrev pub primary_of : Definition → List (List ℕ)
primary_of (definition.Column name kind nullable true) = name ∷ []
primary_of (definition.Column name kind nullable false) = []
primary_of (definition.Primary column) = column ∷ []
primary_of (definition.Key name column) = []

abbrev pub primaries_of : List Definition → List (List ℕ)
primaries_of definitions = flat_map primary_of definitions

-- the column that a definition puts a secondary key on
abbrev pub key_column_of : Definition → List (List ℕ)
key_column_of (definition.Column name kind nullable primary) = []
key_column_of (definition.Primary column) = []
key_column_of (definition.Key name column) = column ∷ []

abbrev pub key_columns_of : List Definition → List (List ℕ)
key_columns_of definitions = flat_map key_column_of definitions

-- whether a definition declares the column of this name NULL
abbrev pub declares_null : List ℕ → Definition → Bool
declares_null column (definition.Column name kind nullable primary) = str_eq_ignore_ascii_case name column && says_null nullable
declares_null column (definition.Primary c) = false
declares_null column (definition.Key name c) = false

-- a column's name as it is declared
abbrev pub declared_name : List ℕ → Option Column → List ℕ
declared_name name None = name
declared_name name (Some column) = column.name

-- a key without a name is named after its column
abbrev pub key_name : List Column → Option (List ℕ) → List ℕ → List ℕ
key_name columns None column = declared_name column (column_at columns (column_place columns column))
key_name columns (Some name) column = name

-- the secondary key of a definition, if it is of one
abbrev pub key_of : List Column → Definition → List Key
key_of columns (definition.Column name kind nullable primary) = []
key_of columns (definition.Primary column) = []
key_of columns (definition.Key name column) =
    record { name = key_name columns name column; column = unwrap_or (column_place columns column) 0 } ∷ []

abbrev pub keys_of : List Column → List Definition → List Key
keys_of columns definitions = flat_map (key_of columns) definitions

-- a VARBINARY has a size from 1 on
abbrev pub is_sized : Kind → Bool
is_sized BigInt = true
is_sized (VarBinary size) = not (size == 0)

-- and one of at most 32 where it is indexed, by the primary key or a secondary one
abbrev pub is_short : Kind → Bool
is_short BigInt = true
is_short (VarBinary size) = nat_le size MOST_BYTES_OF_INDEX

-- an indexed column must be there
abbrev pub is_indexable : Option Column → Bool
is_indexable None = false
is_indexable (Some column) = is_short column.kind

-- the bytes of a value as a key: a number's, or a text's filled up to its size and its length
abbrev pub key_bytes : Kind → ℕ
key_bytes BigInt = 8
key_bytes (VarBinary size) = size + 1

-- the bytes of a row: the primary key's value as a key, and each other value as a field,
-- which has a byte more that tells NULL
abbrev pub row_bytes : List Column → ℕ
row_bytes columns = sum_by (λ c. key_bytes c.kind + 1) columns - 1

-- the columns are few, small and of different names
abbrev pub are_good_columns : List Column → Bool
are_good_columns columns =
    nat_le (length columns) MOST_COLUMNS
    && (not (has_twins columns) && (list_all (λ c. is_sized c.kind) columns && nat_le (row_bytes columns) MOST_BYTES_OF_ROW))

-- the keys are few, and on columns that can be indexed; the primary key's column is not declared NULL
abbrev pub are_good_keys : List ℕ → List Column → List Definition → Bool
are_good_keys primary columns definitions =
    nat_le (length (key_columns_of definitions)) MOST_KEYS
    && (list_all (λ name. is_indexable (column_at columns (column_place columns name))) (primary ∷ key_columns_of definitions)
    && not (list_any (declares_null primary) definitions))

abbrev pub schema_of : List ℕ → List ℕ → List Column → List Definition → Schema
schema_of table primary columns definitions =
    record { name = table; columns = columns; primary = unwrap_or (column_place columns primary) 0; keys = keys_of columns definitions }

abbrev pub schema_if : List ℕ → List Definition → List ℕ → List Column → Option Schema
schema_if table definitions primary columns =
    if are_good_columns columns && are_good_keys primary columns definitions
    then Some (schema_of table primary columns definitions)
    else None

-- the schema that is declared: there is one primary key, and columns and keys are good
abbrev pub declared_by : List ℕ → List Definition → List (List ℕ) → Option Schema
declared_by table definitions [] = None
declared_by table definitions (primary ∷ []) = schema_if table definitions primary (columns_of primary definitions)
declared_by table definitions (primary ∷ another ∷ primaries) = None

abbrev pub schema_declared : List ℕ → List Definition → Option Schema
schema_declared table definitions = declared_by table definitions (primaries_of definitions)
