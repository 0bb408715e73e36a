-- No two values have one key.
use Rattle.std.proofs.Common.{◌≡◌, ℕ, ◌+◌, ◌-◌, ◌^◌, ◌<◌, List, length, take, drop, refl, sym, ap, ◌∙◌, arith}
use Rattle.std.specs.Prelude.{ℤ, pos, negsuc, FitsSigned, replicate}
use Rattle.std.specs.Int.{w64, from_be_bytes}
use Rattle.std.proofs.lemmas.List.{take_at, drop_at, same_from_push}
use Rattle.std.proofs.lemmas.Nat.{from_be_bytes-to_be_bytes_8}
use Rattle.inno_types.specs.declared.value.Kind.{Kind}
use Rattle.inno_types.specs.declared.value.Kind.TheVariants.{BigInt, VarBinary}
use Rattle.inno_types.specs.declared.value.Value.{Value}
use Rattle.inno_types.specs.declared.value.Value.TheVariants.{Null, Int, Text}
use Rattle.key_codec.specs.Keys.{IsOfKind, IsOfKindOrNull, Has64Bits, raised, padded, key_code, key_width, entry_front, entry_code}
use Rattle.key_codec.specs.Numbers.{u64_bytes}
use Rattle.key_codec.proofs.Lengths.{length-entry_front}
use Rattle.key_codec.proofs.ValueOrder.{raised_fits}

pub same_u64 : (m n : ℕ) → m < 2 ^ 64 → n < 2 ^ 64 → u64_bytes m ≡ u64_bytes n → m ≡ n
unfolding u64_bytes
same_u64 m n m_fits n_fits e = sym (from_be_bytes-to_be_bytes_8 m m_fits) ∙ ap (from_be_bytes w64) e ∙ from_be_bytes-to_be_bytes_8 n n_fits

same_raised : (m n : ℤ) → FitsSigned w64 m → FitsSigned w64 n → raised m ≡ raised n → m ≡ n
same_raised (pos m) (pos n) f g e = ap pos (omega (arith, e))
same_raised (pos m) (negsuc n) f g e = absurd (omega (arith, e, g.sfits))
same_raised (negsuc m) (pos n) f g e = absurd (omega (arith, e, f.sfits))
same_raised (negsuc m) (negsuc n) f g e = ap negsuc (omega (arith, e, f.sfits, g.sfits))

pub same_padded : (size : ℕ) (s t : List ℕ) → length s ≡ length t → padded size s ≡ padded size t → s ≡ t
same_padded size s t len e =
    sym (take_at s (replicate (size - length s) 0) (length s) refl) ∙ ap (take (length s)) e ∙ take_at t (replicate (size - length t) 0) (length s) (sym len)

pub same_key : (kind : Kind) (a b : Value) → IsOfKind kind a → IsOfKind kind b → Has64Bits a → Has64Bits b → key_code kind a ≡ key_code kind b → a ≡ b
same_key BigInt Null b is_a is_b fits_a fits_b e = absurd is_a
same_key BigInt (Text text) b is_a is_b fits_a fits_b e = absurd is_a
same_key BigInt (Int m) Null is_a is_b fits_a fits_b e = absurd is_b
same_key BigInt (Int m) (Text text) is_a is_b fits_a fits_b e = absurd is_b
same_key BigInt (Int m) (Int n) is_a is_b fits_a fits_b e =
    ap (λ (z : ℤ). Int z) (same_raised m n fits_a fits_b (same_u64 (raised m) (raised n) (raised_fits m fits_a) (raised_fits n fits_b) e))
same_key (VarBinary size) Null b is_a is_b fits_a fits_b e = absurd is_a
same_key (VarBinary size) (Int m) b is_a is_b fits_a fits_b e = absurd is_a
same_key (VarBinary size) (Text text) Null is_a is_b fits_a fits_b e = absurd is_b
same_key (VarBinary size) (Text text) (Int n) is_a is_b fits_a fits_b e = absurd is_b
same_key (VarBinary size) (Text s) (Text t) is_a is_b fits_a fits_b e =
    let parts = same_from_push (padded size s) (padded size t) (length s) (length t) e in ap (λ (l : List ℕ). Text l) (same_padded size s t parts.1 parts.0)

same_front : (kind : Kind) (a b : Value) → IsOfKindOrNull kind a → IsOfKindOrNull kind b → Has64Bits a → Has64Bits b → entry_front kind a ≡ entry_front kind b → a ≡ b
same_front kind Null Null is_a is_b fits_a fits_b e = refl
same_front kind Null (Int n) is_a is_b fits_a fits_b e = absurd cc
same_front kind Null (Text t) is_a is_b fits_a fits_b e = absurd cc
same_front kind (Int m) Null is_a is_b fits_a fits_b e = absurd cc
same_front kind (Text s) Null is_a is_b fits_a fits_b e = absurd cc
same_front kind (Int m) (Int n) is_a is_b fits_a fits_b e = same_key kind (Int m) (Int n) is_a is_b fits_a fits_b cc
same_front kind (Int m) (Text t) is_a is_b fits_a fits_b e = same_key kind (Int m) (Text t) is_a is_b fits_a fits_b cc
same_front kind (Text s) (Int n) is_a is_b fits_a fits_b e = same_key kind (Text s) (Int n) is_a is_b fits_a fits_b cc
same_front kind (Text s) (Text t) is_a is_b fits_a fits_b e = same_key kind (Text s) (Text t) is_a is_b fits_a fits_b cc

pub same_entry : (kind : Kind) (a b : Value) (p q : List ℕ) → IsOfKindOrNull kind a → IsOfKindOrNull kind b → Has64Bits a → Has64Bits b → entry_code kind a p ≡ entry_code kind b q → (a ≡ b) × (p ≡ q)
same_entry kind a b p q is_a is_b fits_a fits_b e =
    let n = 1 + key_width kind in
    let len_a = length-entry_front kind a is_a in
    let len_b = length-entry_front kind b is_b in (
      same_front kind a b is_a is_b fits_a fits_b (sym (take_at (entry_front kind a) p n len_a) ∙ ap (take n) e ∙ take_at (entry_front kind b) q n len_b),
      sym (drop_at (entry_front kind a) p n len_a) ∙ ap (drop n) e ∙ drop_at (entry_front kind b) q n len_b,
    )
