-- The value of a clustered record: a mark, the writer's id, the roll pointer, and a field for each column but the primary one.
use Rattle.std.specs.Prelude.{◌≡◌, ℕ, ◌^◌, ◌<◌, List, [], ◌∷◌, ◌++◌, length, replicate, remove, Bool, true, false, All, Some, slice_get}
use Rattle.std.specs.Int.{w64, cast_unsigned}
use Rattle.inno_types.specs.declared.value.Kind.{Kind}
use Rattle.inno_types.specs.declared.value.Kind.TheVariants.{BigInt, VarBinary}
use Rattle.inno_types.specs.declared.value.Value.{Value}
use Rattle.inno_types.specs.declared.value.Value.TheVariants.{Null, Int, Text}
use Rattle.inno_types.specs.declared.value.Column.{Column}
use Rattle.inno_types.specs.declared.value.Schema.{Schema}
use Rattle.store_api.specs.declared.answers.Version.{Version}
use Rattle.inno_db.specs.Database.{key_of}
use Rattle.key_codec.specs.Keys.{IsOfKind, Has64Bits, padded, key_code, key_width}
use Rattle.key_codec.specs.Numbers.{u64_bytes}

-- NULL where the column may be NULL, or a value of the column's kind
abbrev pub FitsColumn : Column → Value → Type 0
FitsColumn column Null = column.not_null ≡ false
FitsColumn column (Int n) = IsOfKind column.kind (Int n)
FitsColumn column (Text text) = IsOfKind column.kind (Text text)

-- one value for each column, in order
abbrev pub IsRowOf : List Column → List Value → Type 0
IsRowOf [] [] = Unit {0}
IsRowOf [] (value ∷ row) = ⊥
IsRowOf (column ∷ columns) [] = ⊥
IsRowOf (column ∷ columns) (value ∷ row) = FitsColumn column value × IsRowOf columns row

-- the number's two's complement, or the text's length and the padded text
abbrev pub body_code : Kind → Value → List ℕ
body_code BigInt (Int n) = u64_bytes (cast_unsigned w64 n)
body_code (VarBinary size) (Text text) = length text ∷ padded size text
body_code kind other = []

-- 0 and zeros for NULL, or 1 and what the value is
abbrev pub field_code : Kind → Value → List ℕ
field_code kind Null = 0 ∷ replicate (key_width kind) 0
field_code kind (Int n) = 1 ∷ body_code kind (Int n)
field_code kind (Text text) = 1 ∷ body_code kind (Text text)

-- the fields of these columns one behind the other
abbrev pub fields_code : List Column → List Value → List ℕ
fields_code [] row = []
fields_code (column ∷ columns) [] = []
fields_code (column ∷ columns) (value ∷ row) = field_code column.kind value ++ fields_code columns row

abbrev pub mark_code : Bool → ℕ
mark_code true = 1
mark_code false = 0

-- what stands before the fields
unfoldable pub head_code : Bool → ℕ → ℕ → List ℕ
head_code marked writer pointer = mark_code marked ∷ u64_bytes writer ++ u64_bytes pointer

-- the fields of all columns but the one at a place
abbrev pub others_code : ℕ → List Column → List Value → List ℕ
others_code place columns row = fields_code (remove columns place) (remove row place)

abbrev pub version_code : Schema → Version → List ℕ
version_code schema version = head_code version.marked version.writer version.pointer ++ others_code schema.primary schema.columns version.row

-- The row's primary value is there, and its key is these bytes.
pub record IsKeyOf (schema : Schema) (row : List Value) (key : List ℕ) : Type 0 where
  pub column : Column
  pub primary : slice_get schema.columns schema.primary ≡ Some column
  pub present : IsOfKind column.kind (key_of schema row)
  pub spelled : key ≡ key_code column.kind (key_of schema row)

-- A row is kept as this key and these fields.
pub record IsStored (schema : Schema) (row : List Value) (key fields : List ℕ) : Type 0 where
  pub fits : IsRowOf schema.columns row
  pub key_is : IsKeyOf schema row key
  pub fields_are : fields ≡ others_code schema.primary schema.columns row

-- These are the key and the value of the clustered record of a version.
pub record IsRecordOf (schema : Schema) (version : Version) (key value : List ℕ) : Type 0 where
  pub fits : IsRowOf schema.columns version.row
  pub key_is : IsKeyOf schema version.row key
  pub value_is : value ≡ version_code schema version

-- its numbers have 64 bits, as all numbers of a program have
pub record IsVersion (version : Version) : Type 0 where
  pub writer : version.writer < 2 ^ 64
  pub pointer : version.pointer < 2 ^ 64
  pub row : All Has64Bits version.row
