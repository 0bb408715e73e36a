-- Keys: bytes whose order, byte by byte, is the order of the values that they stand for.
use Rattle.std.specs.Prelude.{ℕ, suc, ◌+◌, ◌-◌, ◌^◌, ◌≤◌, List, [], ◌∷◌, ◌++◌, length, replicate, ℤ, pos, negsuc, FitsSigned}
use Rattle.std.specs.Int.{w64}
use Rattle.inno_types.specs.declared.value.Kind.{Kind}
use Rattle.inno_types.specs.declared.value.Kind.TheVariants.{BigInt, VarBinary}
use Rattle.inno_types.specs.declared.value.Value.{Value}
use Rattle.inno_types.specs.declared.value.Value.TheVariants.{Null, Int, Text}
use Rattle.key_codec.specs.Numbers.{u64_bytes}

-- a value of this kind: not NULL, and a text no longer than the column
abbrev pub IsOfKind : Kind → Value → Type 0
IsOfKind BigInt (Int n) = Unit {0}
IsOfKind (VarBinary size) (Text text) = length text ≤ size
IsOfKind kind other = ⊥

-- NULL, or a value of this kind
abbrev pub IsOfKindOrNull : Kind → Value → Type 0
IsOfKindOrNull kind Null = Unit {0}
IsOfKindOrNull kind (Int n) = IsOfKind kind (Int n)
IsOfKindOrNull kind (Text text) = IsOfKind kind (Text text)

-- a number has 64 bits, as every number of a program has
abbrev pub Has64Bits : Value → Type 0
Has64Bits Null = Unit {0}
Has64Bits (Int n) = FitsSigned w64 n
Has64Bits (Text text) = Unit {0}

-- a value that has a key of its own
abbrev pub HasKey : Kind → Value → Type 0
HasKey kind value = IsOfKind kind value × Has64Bits value

-- a value that has entries of its own
abbrev pub HasEntry : Kind → Value → Type 0
HasEntry kind value = IsOfKindOrNull kind value × Has64Bits value

-- the number plus 2 ^ 63, so that the least number becomes 0
abbrev pub raised : ℤ → ℕ
raised (pos n) = 2 ^ 63 + n
raised (negsuc n) = 2 ^ 63 - suc n

-- the text, and zeros up to the size of its column
abbrev pub padded : ℕ → List ℕ → List ℕ
padded size text = text ++ replicate (size - length text) 0

-- the number plus 2 ^ 63, or the padded text and then its length
abbrev pub key_code : Kind → Value → List ℕ
key_code BigInt (Int n) = u64_bytes (raised n)
key_code (VarBinary size) (Text text) = padded size text ++ length text ∷ []
key_code kind other = []

-- how many bytes a key of this kind has
abbrev pub key_width : Kind → ℕ
key_width BigInt = 8
key_width (VarBinary size) = size + 1

-- what stands before the primary key in an entry of a secondary index: 0 and zeros for NULL, or 1 and the value's key
abbrev pub entry_front : Kind → Value → List ℕ
entry_front kind Null = 0 ∷ replicate (key_width kind) 0
entry_front kind (Int n) = 1 ∷ key_code kind (Int n)
entry_front kind (Text text) = 1 ∷ key_code kind (Text text)

abbrev pub entry_code : Kind → Value → List ℕ → List ℕ
entry_code kind value primary = entry_front kind value ++ primary
