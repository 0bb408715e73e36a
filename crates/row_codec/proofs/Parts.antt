-- The parts of a record: how long they are, and how they stand one behind the other.
use Rattle.std.proofs.Common.{◌≡◌, ℕ, ◌+◌, Bool, List, ◌∷◌, ◌++◌, length, take, drop, Option, Some, None, Err, refl, sym, ap, ◌∙◌, append_assoc, length-append, arith}
use Rattle.std.specs.Prelude.{IfNone}
use Rattle.std.proofs.lemmas.List.{take_at, drop_at, length-replicate}
use Rattle.inno_types.specs.declared.value.Kind.{Kind}
use Rattle.inno_types.specs.declared.value.Kind.TheVariants.{BigInt, VarBinary}
use Rattle.inno_types.specs.declared.value.Value.{Value}
use Rattle.inno_types.specs.declared.value.Value.TheVariants.{Null, Int, Text}
use Rattle.inno_types.specs.declared.value.Column.{Column}
use Rattle.key_codec.specs.Keys.{IsOfKind, key_width}
use Rattle.key_codec.specs.Numbers.{u64_bytes}
use Rattle.key_codec.proofs.Lengths.{length-u64_bytes, length-padded}
use Rattle.row_codec.specs.Rows.{FitsColumn, body_code, field_code, mark_code, head_code}
use Rattle.row_codec.specs.declared.refused.RowBad.{RowBad}
use Rattle.row_codec.specs.declared.refused.RowBad.TheVariants.{Shape, NoMemory}
use Rattle.row_codec.specs.Refused.{IsOrNoMemory}

pub none_from : {T : Type 0} (r : Option T) (P : Type 0) → P → IfNone r P
none_from None P p = p
none_from (Some x) P p = tt

-- two equally long fronts of one list are one
pub same_fronts : (xs ys p q : List ℕ) → length xs ≡ length ys → xs ++ p ≡ ys ++ q → (xs ≡ ys) × (p ≡ q)
same_fronts xs ys p q len e =
    (sym (take_at xs p (length xs) refl) ∙ ap (take (length xs)) e ∙ take_at ys q (length xs) (sym len), sym (drop_at xs p (length xs) refl) ∙ ap (drop (length xs)) e ∙ drop_at ys q (length xs) (sym len))

-- ---- the head

pub length-head_code : (marked : Bool) (writer pointer : ℕ) → length (head_code marked writer pointer) ≡ 17
unfolding head_code
length-head_code marked writer pointer = omega (arith, length-append (u64_bytes writer) (u64_bytes pointer), length-u64_bytes writer, length-u64_bytes pointer)

pub head_parts : (marked : Bool) (writer pointer : ℕ) (rest : List ℕ) → head_code marked writer pointer ++ rest ≡ mark_code marked ∷ (u64_bytes writer ++ (u64_bytes pointer ++ rest))
unfolding head_code
head_parts marked writer pointer rest = ap (λ (l : List ℕ). mark_code marked ∷ l) (append_assoc (u64_bytes writer) (u64_bytes pointer) rest)

-- ---- fields

pub length-body_code : (kind : Kind) (value : Value) → IsOfKind kind value → length (body_code kind value) ≡ key_width kind
length-body_code BigInt Null is = absurd is
length-body_code BigInt (Int n) is = length-u64_bytes _
length-body_code BigInt (Text text) is = absurd is
length-body_code (VarBinary size) Null is = absurd is
length-body_code (VarBinary size) (Int n) is = absurd is
length-body_code (VarBinary size) (Text text) is = omega (arith, length-padded size text is)

pub length-field_code : (column : Column) (value : Value) → FitsColumn column value → length (field_code column.kind value) ≡ 1 + key_width column.kind
length-field_code column Null is = omega (arith, length-replicate {A = ℕ} (key_width column.kind) 0)
length-field_code column (Int n) is = omega (arith, length-body_code column.kind (Int n) is)
length-field_code column (Text text) is = omega (arith, length-body_code column.kind (Text text) is)

-- ---- refusals

pub or_no_memory : {T : Type 0} (e : RowBad) (value : T) → (e ≡ Shape → ⊥) → IsOrNoMemory (Err e) value
or_no_memory Shape value other = other refl
or_no_memory NoMemory value other = tt
