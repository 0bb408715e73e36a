-- How long keys are, and their parts.
use Rattle.std.proofs.Common.{◌≡◌, ℕ, ◌+◌, ◌≤◌, List, [], ◌∷◌, length, refl, ap, ◌∙◌, arith, length-append}
use Rattle.std.proofs.lemmas.List.{length-replicate}
use Rattle.inno_types.specs.declared.value.Kind.{Kind}
use Rattle.inno_types.specs.declared.value.Kind.TheVariants.{BigInt, VarBinary}
use Rattle.inno_types.specs.declared.value.Value.{Value}
use Rattle.inno_types.specs.declared.value.Value.TheVariants.{Null, Int, Text}
use Rattle.key_codec.specs.Keys.{IsOfKind, IsOfKindOrNull, padded, key_code, key_width, entry_front, entry_code}
use Rattle.key_codec.specs.Numbers.{u64_bytes}

pub length-u64_bytes : (n : ℕ) → length (u64_bytes n) ≡ 8
unfolding u64_bytes
length-u64_bytes n = refl

pub length-padded : (size : ℕ) (text : List ℕ) → length text ≤ size → length (padded size text) ≡ size
length-padded size text fits = omega (arith, length-append {A = ℕ}, length-replicate {A = ℕ})

pub length-key_code : (kind : Kind) (value : Value) → IsOfKind kind value → length (key_code kind value) ≡ key_width kind
length-key_code BigInt Null is = absurd is
length-key_code BigInt (Int n) is = length-u64_bytes _
length-key_code BigInt (Text text) is = absurd is
length-key_code (VarBinary size) Null is = absurd is
length-key_code (VarBinary size) (Int n) is = absurd is
length-key_code (VarBinary size) (Text text) is = length-append (padded size text) (length text ∷ []) ∙ ap (λ (n : ℕ). n + 1) (length-padded size text is)

pub length-entry_front : (kind : Kind) (value : Value) → IsOfKindOrNull kind value → length (entry_front kind value) ≡ 1 + key_width kind
length-entry_front kind Null is = omega (arith, length-replicate {A = ℕ} (key_width kind) 0)
length-entry_front kind (Int n) is = omega (arith, length-key_code kind (Int n) is)
length-entry_front kind (Text text) is = omega (arith, length-key_code kind (Text text) is)

pub length-entry_code : (kind : Kind) (value : Value) (primary : List ℕ) → IsOfKindOrNull kind value → length (entry_code kind value primary) ≡ 1 + key_width kind + length primary
length-entry_code kind value primary is = omega (arith, length-append (entry_front kind value) primary, length-entry_front kind value is)
