-- The order of keys, and of entries, is that of values.
use Rattle.std.proofs.Common.{◌≡◌, ℕ, ◌^◌, ◌<◌, List, refl, sym, ap, ◌∙◌, arith}
use Rattle.std.specs.Prelude.{ℤ, pos, negsuc, FitsSigned, replicate}
use Rattle.std.specs.Int.{w64}
use Rattle.std.specs.declared.cmp.Ordering.{Ordering}
use Rattle.std.specs.Ordering.{nat_cmp, int_cmp, ordering_then}
use Rattle.std.specs.Cmp.Lexicographic.{slice_cmp}
use Rattle.std.proofs.lemmas.Bool.Decides.{nat_tests}
use Rattle.inno_types.specs.declared.value.Kind.{Kind}
use Rattle.inno_types.specs.declared.value.Kind.TheVariants.{BigInt, VarBinary}
use Rattle.inno_types.specs.declared.value.Value.{Value}
use Rattle.inno_types.specs.declared.value.Value.TheVariants.{Null, Int, Text}
use Rattle.inno_db.specs.Database.{value_cmp}
use Rattle.key_codec.specs.Keys.{IsOfKind, IsOfKindOrNull, Has64Bits, raised, key_code, key_width, entry_front, entry_code}
use Rattle.inno_types.proofs.ByteOrder.{then_equal, itself, slice_cmp-append}
use Rattle.key_codec.proofs.ByteOrder.{u64_bytes-order}
use Rattle.key_codec.proofs.Lengths.{length-entry_front}
use Rattle.key_codec.proofs.Texts.{padded-order}

pub raised_fits : (n : ℤ) → FitsSigned w64 n → raised n < 2 ^ 64
raised_fits (pos n) fits = omega (arith, fits.sfits)
raised_fits (negsuc n) fits = omega (arith, fits.sfits)

raised-order : (m n : ℤ) → FitsSigned w64 m → FitsSigned w64 n → nat_cmp (raised m) (raised n) ≡ int_cmp m n
raised-order (pos m) (pos n) f g = grind (arith, nat_tests, f.sfits, g.sfits)
raised-order (pos m) (negsuc n) f g = grind (arith, nat_tests, f.sfits, g.sfits)
raised-order (negsuc m) (pos n) f g = grind (arith, nat_tests, f.sfits, g.sfits)
raised-order (negsuc m) (negsuc n) f g = grind (arith, nat_tests, f.sfits, g.sfits)

pub key_code-order : (kind : Kind) (a b : Value) → IsOfKind kind a → IsOfKind kind b → Has64Bits a → Has64Bits b → slice_cmp nat_cmp (key_code kind a) (key_code kind b) ≡ value_cmp a b
key_code-order BigInt Null b is_a is_b fits_a fits_b = absurd is_a
key_code-order BigInt (Text text) b is_a is_b fits_a fits_b = absurd is_a
key_code-order BigInt (Int m) Null is_a is_b fits_a fits_b = absurd is_b
key_code-order BigInt (Int m) (Text text) is_a is_b fits_a fits_b = absurd is_b
key_code-order BigInt (Int m) (Int n) is_a is_b fits_a fits_b =
    u64_bytes-order (raised m) (raised n) (raised_fits m fits_a) (raised_fits n fits_b) ∙ raised-order m n fits_a fits_b ∙ sym (then_equal (int_cmp m n))
key_code-order (VarBinary size) Null b is_a is_b fits_a fits_b = absurd is_a
key_code-order (VarBinary size) (Int m) b is_a is_b fits_a fits_b = absurd is_a
key_code-order (VarBinary size) (Text text) Null is_a is_b fits_a fits_b = absurd is_b
key_code-order (VarBinary size) (Text text) (Int n) is_a is_b fits_a fits_b = absurd is_b
key_code-order (VarBinary size) (Text s) (Text t) is_a is_b fits_a fits_b = padded-order size s t is_a is_b

entry_front-order : (kind : Kind) (a b : Value) → IsOfKindOrNull kind a → IsOfKindOrNull kind b → Has64Bits a → Has64Bits b → slice_cmp nat_cmp (entry_front kind a) (entry_front kind b) ≡ value_cmp a b
entry_front-order kind Null Null is_a is_b fits_a fits_b = itself (replicate (key_width kind) 0)
entry_front-order kind Null (Int n) is_a is_b fits_a fits_b = refl
entry_front-order kind Null (Text t) is_a is_b fits_a fits_b = refl
entry_front-order kind (Int m) Null is_a is_b fits_a fits_b = refl
entry_front-order kind (Int m) (Int n) is_a is_b fits_a fits_b = key_code-order kind (Int m) (Int n) is_a is_b fits_a fits_b
entry_front-order kind (Int m) (Text t) is_a is_b fits_a fits_b = key_code-order kind (Int m) (Text t) is_a is_b fits_a fits_b
entry_front-order kind (Text s) Null is_a is_b fits_a fits_b = refl
entry_front-order kind (Text s) (Int n) is_a is_b fits_a fits_b = key_code-order kind (Text s) (Int n) is_a is_b fits_a fits_b
entry_front-order kind (Text s) (Text t) is_a is_b fits_a fits_b = key_code-order kind (Text s) (Text t) is_a is_b fits_a fits_b

pub entry_code-order : (kind : Kind) (a b : Value) (p q : List ℕ) → IsOfKindOrNull kind a → IsOfKindOrNull kind b → Has64Bits a → Has64Bits b
    → slice_cmp nat_cmp (entry_code kind a p) (entry_code kind b q) ≡ ordering_then (value_cmp a b) (slice_cmp nat_cmp p q)
entry_code-order kind a b p q is_a is_b fits_a fits_b =
    slice_cmp-append (entry_front kind a) (entry_front kind b) p q (length-entry_front kind a is_a ∙ sym (length-entry_front kind b is_b))
    ∙ ap (λ (o : Ordering). ordering_then o (slice_cmp nat_cmp p q)) (entry_front-order kind a b is_a is_b fits_a fits_b)
