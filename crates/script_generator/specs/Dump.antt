-- The text of a database: for each table the statement that creates it and one for each of its rows.
use Rattle.std.specs.Prelude.{ℕ, ◌+◌, List, [], ◌∷◌, ◌++◌, ◌==◌, if◌then◌else◌, codes, slice_get, Option, Some, None}
use Rattle.std.specs.List.{flat_map}
use Rattle.std.specs.Fmt.{decimal, signed_decimal}
use Rattle.inno_types.specs.declared.value.Value.{Value}
use Rattle.inno_types.specs.declared.value.Value.TheVariants.{Null, Int, Text}
use Rattle.inno_types.specs.declared.value.Kind.{Kind}
use Rattle.inno_types.specs.declared.value.Kind.TheVariants.{BigInt, VarBinary}
use Rattle.inno_types.specs.declared.value.Column.{Column}
use Rattle.inno_types.specs.declared.value.Key.{Key}
use Rattle.inno_types.specs.declared.value.Schema.{Schema}
use Rattle.inno_db.specs.Database.{Database, rows_of}

-- ---- names and values

-- a byte of a name: a backquote is doubled
abbrev pub name_byte : ℕ → List ℕ
name_byte b = if b == 96 then codes "``" else b ∷ []

-- a name in backquotes
unfoldable pub name_text : List ℕ → List ℕ
name_text name = codes "`" ++ (flat_map name_byte name ++ codes "`")

-- a byte of a text: 0, LF, CR, 26, the quote and the backslash are written by two bytes
abbrev pub text_byte : ℕ → List ℕ
text_byte b =
    if b == 0 then codes "\\0"
    else (if b == 10 then codes "\\n"
    else (if b == 13 then codes "\\r"
    else (if b == 26 then codes "\\Z"
    else (if b == 39 then codes "\\'"
    else (if b == 92 then codes "\\\\"
    else b ∷ [])))))

abbrev pub value_text : Value → List ℕ
value_text Null = codes "NULL"
value_text (Int n) = signed_decimal n
value_text (Text bytes) = codes "'" ++ (flat_map text_byte bytes ++ codes "'")

-- what stands behind a comma
abbrev pub behind_comma : {T : Type 0} → List ℕ → (T → List ℕ) → T → List ℕ
behind_comma comma text x = comma ++ text x

-- the texts of some things, with a comma between them
abbrev pub listed : {T : Type 0} → List ℕ → (T → List ℕ) → List T → List ℕ
listed comma text [] = []
listed comma text (x ∷ xs) = text x ++ flat_map (behind_comma comma text) xs

-- ---- tables

abbrev pub kind_text : Kind → List ℕ
kind_text BigInt = codes "BIGINT"
kind_text (VarBinary most) = codes "VARBINARY(" ++ (decimal most ++ codes ")")

abbrev pub column_text : Column → List ℕ
column_text column = name_text column.name ++ (codes " " ++ (kind_text column.kind ++ (if column.not_null then codes " NOT NULL" else [])))

abbrev pub found_name : Option Column → List ℕ
found_name None = []
found_name (Some column) = column.name

-- the name of the column at a place, in brackets
unfoldable pub in_brackets : List Column → ℕ → List ℕ
in_brackets columns place = codes " (" ++ (name_text (found_name (slice_get columns place)) ++ codes ")")

abbrev pub key_text : List Column → Key → List ℕ
key_text columns key = codes ", KEY " ++ (name_text key.name ++ in_brackets columns key.column)

unfoldable pub primary_text : Schema → List ℕ
primary_text schema = codes ", PRIMARY KEY" ++ in_brackets schema.columns schema.primary

-- the primary key and the other keys, and the end of the statement
unfoldable pub keys_text : Schema → List ℕ
keys_text schema = primary_text schema ++ (flat_map (key_text schema.columns) schema.keys ++ codes ");\n")

unfoldable pub columns_text : Schema → List ℕ
columns_text schema = codes " (" ++ (listed (codes ", ") column_text schema.columns ++ keys_text schema)

-- the statement that creates the table, on a line
unfoldable pub create_text : Schema → List ℕ
create_text schema = codes "CREATE TABLE " ++ (name_text schema.name ++ columns_text schema)

unfoldable pub values_text : List Value → List ℕ
values_text row = codes " VALUES (" ++ (listed (codes ",") value_text row ++ codes ");\n")

-- the statement that puts the row into the table, on a line
unfoldable pub insert_text : List ℕ → List Value → List ℕ
insert_text table row = codes "INSERT INTO " ++ (name_text table ++ values_text row)

unfoldable pub table_text : Schema → List (List Value) → List ℕ
table_text schema rows = create_text schema ++ flat_map (insert_text schema.name) rows

-- the tables from this number on
abbrev pub tables_text : Database → ℕ → List Schema → List ℕ
tables_text db table [] = []
tables_text db table (schema ∷ schemas) = table_text schema (rows_of table db) ++ tables_text db (table + 1) schemas

abbrev pub text_of : Database → List ℕ
text_of db = tables_text db 0 db.schemas
