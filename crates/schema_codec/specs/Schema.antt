-- How a schema is spelled: its name, its columns, the number of the column of the clustered index, and its other indexes.
use Rattle.std.specs.Prelude.{ℕ, ◌<◌, Bool, true, false, List, [], ◌∷◌, ◌++◌, length, All}
use Rattle.std.specs.List.{flat_map}
use Rattle.inno_types.specs.declared.value.Kind.{Kind}
use Rattle.inno_types.specs.declared.value.Kind.TheVariants.{BigInt, VarBinary}
use Rattle.inno_types.specs.declared.value.Column.{Column}
use Rattle.inno_types.specs.declared.value.Key.{Key}
use Rattle.inno_types.specs.declared.value.Schema.{Schema}

-- how many, and then each of them
abbrev pub counted : {A : Type 0} → (A → List ℕ) → List A → List ℕ
counted spell xs = length xs ∷ flat_map spell xs

abbrev pub name_bytes : List ℕ → List ℕ
name_bytes name = length name ∷ name

-- the kind, and the size where it has one
abbrev pub kind_bytes : Kind → List ℕ
kind_bytes BigInt = 1 ∷ 0 ∷ []
kind_bytes (VarBinary size) = 2 ∷ size ∷ []

abbrev pub flag_bytes : Bool → List ℕ
flag_bytes true = 1 ∷ []
flag_bytes false = 0 ∷ []

abbrev pub column_bytes : Column → List ℕ
column_bytes c = name_bytes c.name ++ kind_bytes c.kind ++ flag_bytes c.not_null

abbrev pub key_bytes : Key → List ℕ
key_bytes k = name_bytes k.name ++ (k.column ∷ [])

abbrev pub schema_bytes : Schema → List ℕ
schema_bytes s = name_bytes s.name ++ counted column_bytes s.columns ++ (s.primary ∷ []) ++ counted key_bytes s.keys

-- their numbers fit their fields
abbrev pub IsName : List ℕ → Type 0
IsName name = length name < 256

abbrev pub IsKind : Kind → Type 0
IsKind BigInt = Unit {0}
IsKind (VarBinary size) = size < 256

abbrev pub IsColumn : Column → Type 0
IsColumn c = IsName c.name × IsKind c.kind

abbrev pub IsKey : Key → Type 0
IsKey k = IsName k.name × (k.column < 256)

abbrev pub IsCounted : {A : Type 0} → (A → Type 0) → List A → Type 0
IsCounted Is xs = (length xs < 256) × All Is xs

abbrev pub IsSchema : Schema → Type 0
IsSchema s = IsName s.name × IsCounted IsColumn s.columns × (s.primary < 256) × IsCounted IsKey s.keys
