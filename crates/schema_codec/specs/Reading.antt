-- Reading from left to right: a value and the bytes after it, or nothing where no value is spelled.
use Rattle.std.specs.Prelude.{◌≡◌, ℕ, zero, suc, Bool, true, false, List, [], ◌∷◌, length, take, drop, Option, Some, None, Result, Ok, Err, nat_lt, ◌==◌, if◌then◌else◌}
use Rattle.std.specs.Int.{w16, w32, w64, from_be_bytes}
use Rattle.inno_types.specs.declared.value.Kind.{Kind}
use Rattle.inno_types.specs.declared.value.Kind.TheVariants.{BigInt, VarBinary}
use Rattle.inno_types.specs.declared.value.Column.{Column}
use Rattle.inno_types.specs.declared.value.Key.{Key}
use Rattle.inno_types.specs.declared.value.Schema.{Schema}
use Rattle.schema_codec.specs.declared.stop.Stop.{Stop}
use Rattle.schema_codec.specs.declared.stop.Stop.TheVariants.{Memory, Malformed}

infixl 10 ◌>>=◌
abbrev pub ◌>>=◌ : {A B : Type 0} → Option A → (A → Option B) → Option B
(Some x) >>= f = f x
None >>= f = None

-- What a function returned, seen by view, is what reading gives, unless memory ran out.
abbrev pub Fails : {Y : Type 0} → Stop → Option Y → Type 0
Fails Malformed read = read ≡ None
Fails Memory read = Unit {0}

abbrev pub Gives : {X Y : Type 0} → (X → Y) → Result X Stop → Option Y → Type 0
Gives view (Ok x) read = read ≡ Some (view x)
Gives view (Err e) read = Fails e read

-- ---- parts

unfoldable pub u8_at : List ℕ → Option (ℕ × List ℕ)
u8_at [] = None
u8_at (b ∷ rest) = Some (b, rest)

unfoldable pub u16_at : List ℕ → Option (ℕ × List ℕ)
u16_at bytes = if nat_lt (length bytes) 2 then None else Some (from_be_bytes w16 (take 2 bytes), drop 2 bytes)

unfoldable pub u32_at : List ℕ → Option (ℕ × List ℕ)
u32_at bytes = if nat_lt (length bytes) 4 then None else Some (from_be_bytes w32 (take 4 bytes), drop 4 bytes)

unfoldable pub u64_at : List ℕ → Option (ℕ × List ℕ)
u64_at bytes = if nat_lt (length bytes) 8 then None else Some (from_be_bytes w64 (take 8 bytes), drop 8 bytes)

unfoldable pub bytes_at : ℕ → List ℕ → Option (List ℕ × List ℕ)
bytes_at n bytes = if nat_lt (length bytes) n then None else Some (take n bytes, drop n bytes)

-- one, and then another
abbrev pub both_at : {A B : Type 0} → (List ℕ → Option (A × List ℕ)) → (List ℕ → Option (B × List ℕ)) → List ℕ → Option ((A × B) × List ℕ)
both_at first second bytes = do
  x ← first bytes
  y ← second x.1
  Some ((x.0, y.0), y.1)

-- so many, one behind the other
unfoldable pub list_at : {A : Type 0} → (List ℕ → Option (A × List ℕ)) → ℕ → List ℕ → Option (List A × List ℕ)
list_at item zero bytes = Some ([], bytes)
list_at item (suc n) bytes = do
  first ← item bytes
  others ← list_at item n first.1
  Some (first.0 ∷ others.0, others.1)

-- how many, and then each of them
abbrev pub counted_at : {A : Type 0} → (List ℕ → Option (A × List ℕ)) → List ℕ → Option (List A × List ℕ)
counted_at item bytes = do
  count ← u8_at bytes
  list_at item count.0 count.1

-- ---- schemas

unfoldable pub name_at : List ℕ → Option (List ℕ × List ℕ)
name_at bytes = do
  len ← u8_at bytes
  bytes_at len.0 len.1

unfoldable pub kind_at : List ℕ → Option (Kind × List ℕ)
kind_at bytes = do
  kind ← u8_at bytes
  size ← u8_at kind.1
  if kind.0 == 1 then (if size.0 == 0 then Some (BigInt, size.1) else None) else if kind.0 == 2 then Some (VarBinary size.0, size.1) else None

unfoldable pub flag_at : List ℕ → Option (Bool × List ℕ)
flag_at bytes = do
  flag ← u8_at bytes
  if flag.0 == 0 then Some (false, flag.1) else if flag.0 == 1 then Some (true, flag.1) else None

unfoldable pub column_at : List ℕ → Option (Column × List ℕ)
column_at bytes = do
  parts ← both_at (both_at name_at kind_at) flag_at bytes
  Some (record { name = parts.0.0.0; kind = parts.0.0.1; not_null = parts.0.1 }, parts.1)

unfoldable pub key_at : List ℕ → Option (Key × List ℕ)
key_at bytes = do
  parts ← both_at name_at u8_at bytes
  Some (record { name = parts.0.0; column = parts.0.1 }, parts.1)

unfoldable pub schema_at : List ℕ → Option (Schema × List ℕ)
schema_at bytes = do
  parts ← both_at (both_at (both_at name_at (counted_at column_at)) u8_at) (counted_at key_at) bytes
  Some (record { name = parts.0.0.0.0; columns = parts.0.0.0.1; primary = parts.0.0.1; keys = parts.0.1 }, parts.1)
