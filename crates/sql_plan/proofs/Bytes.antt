-- The bytes of a bound stand among keys as its value stands among values.
use Rattle.std.proofs.Common.{◌≡◌, ℕ, zero, suc, ◌+◌, ◌-◌, ◌<◌, ◌≤◌, Bool, true, false, List, [], ◌∷◌, ◌++◌, length, take, refl, ap, ◌∙◌, arith, length-append, ltb-true, ltb-false, leb-true}
use Rattle.std.specs.Prelude.{replicate, nat_lt, if◌then◌else◌}
use Rattle.std.proofs.lemmas.List.{length-take-le}
use Rattle.std.proofs.lemmas.Bool.Decides.{nat_tests}
use Rattle.std.specs.declared.cmp.Ordering.{Ordering}
use Rattle.std.specs.declared.cmp.Ordering.TheVariants.{Less}
use Rattle.std.specs.Ordering.{nat_cmp, ordering_then}
use Rattle.std.specs.Cmp.Lexicographic.{slice_cmp}
use Rattle.inno_types.specs.declared.value.Value.{Value}
use Rattle.inno_types.specs.declared.value.Value.TheVariants.{Null, Int, Text}
use Rattle.inno_types.specs.declared.value.Kind.{Kind}
use Rattle.inno_types.specs.declared.value.Kind.TheVariants.{BigInt, VarBinary}
use Rattle.inno_db.specs.Database.{value_cmp}
use Rattle.inno_db.specs.Declarations.{is_short}
use Rattle.inno_db.specs.Typing.{type_of}
use Rattle.key_codec.specs.Keys.{HasKey, Has64Bits, key_code, key_width, padded}
use Rattle.key_codec.proofs.ValueOrder.{key_code-order}
use Rattle.key_codec.proofs.Lengths.{length-key_code}
use Rattle.sql_plan.specs.Bounds.{value_bytes}
use Rattle.sql_plan.proofs.Admitted.{has_type}

above_zero : (z : ℕ) → nat_cmp 0 (suc z) ≡ Less
above_zero z = grind (arith, nat_tests)

-- zeros and a length stand before any text as long and a greater length
zeros_before : (n k m : ℕ) (zs : List ℕ) → length zs ≡ n → k < m → slice_cmp nat_cmp (replicate n 0 ++ k ∷ []) (zs ++ m ∷ []) ≡ Less
zeros_before zero k m [] e below = grind (arith, nat_tests)
zeros_before zero k m (z ∷ zs) e below = absurd (omega (arith, e))
zeros_before (suc n) k m [] e below = absurd (omega (arith, e))
zeros_before (suc n) k m (zero ∷ zs) e below = zeros_before n k m zs (omega (arith, e)) below
zeros_before (suc n) k m (suc z ∷ zs) e below = ap (λ (o : Ordering). ordering_then o (slice_cmp nat_cmp (replicate n 0 ++ k ∷ []) (zs ++ m ∷ []))) (above_zero z)

-- a text that its column holds, beside the front of a longer one with a length m above all; k is the length of what both share
long : (size k m : ℕ) (s t : List ℕ) → length s ≤ size → size < length t → k + size < m
    → slice_cmp nat_cmp (padded size s ++ (k + length s) ∷ []) (take size t ++ m ∷ []) ≡ slice_cmp nat_cmp s t
long size k m s [] fits longer above = absurd (omega (arith, longer))
long size k m [] (y ∷ ys) fits longer above =
    zeros_before (size - 0) (k + 0) m (take size (y ∷ ys)) (length-take-le size (y ∷ ys) (omega (arith, longer)) ∙ omega arith) (omega (arith, above))
long zero k m (x ∷ xs) (y ∷ ys) fits longer above = absurd (omega (arith, fits))
long (suc size) k m (x ∷ xs) (y ∷ ys) fits longer above =
    let left : suc size - suc (length xs) ≡ size - length xs = omega arith in
    let xs_length : k + suc (length xs) ≡ suc k + length xs = omega arith in
    ap (ordering_then (nat_cmp x y)) (rw (left, xs_length) (long size (suc k) m xs ys (omega (arith, fits)) (omega (arith, longer)) (omega (arith, above))))

-- the bytes of a value w beside the key of a value v of the column
pub record IsPlaced (kind : Kind) (v w : Value) : Type 0 where
  pub width : length (value_bytes kind w) ≡ key_width kind
  pub order : slice_cmp nat_cmp (key_code kind v) (value_bytes kind w) ≡ value_cmp v w

short_text : (size : ℕ) (s t : List ℕ) → length s ≤ size → nat_lt size (length t) ≡ false → IsPlaced (VarBinary size) (Text s) (Text t)
short_text size s t fits not_longer =
    let t_fits : length t ≤ size = ltb-false size (length t) not_longer in
    let is_key : value_bytes (VarBinary size) (Text t) ≡ key_code (VarBinary size) (Text t) = ap (λ (b : Bool). if b then take size t ++ 255 ∷ [] else key_code (VarBinary size) (Text t)) not_longer in
    record {
      width = ap length is_key ∙ length-key_code (VarBinary size) (Text t) t_fits;
      order = ap (slice_cmp nat_cmp (key_code (VarBinary size) (Text s))) is_key ∙ key_code-order (VarBinary size) (Text s) (Text t) fits t_fits tt tt;
    }

long_text : (size : ℕ) (s t : List ℕ) → length s ≤ size → size < 255 → nat_lt size (length t) ≡ true → IsPlaced (VarBinary size) (Text s) (Text t)
long_text size s t fits short longer =
    let t_longer : size < length t = ltb-true size (length t) longer in
    let is_front : value_bytes (VarBinary size) (Text t) ≡ take size t ++ 255 ∷ [] = ap (λ (b : Bool). if b then take size t ++ 255 ∷ [] else key_code (VarBinary size) (Text t)) longer in
    let no_front : 0 + length s ≡ length s = omega arith in
    record {
      width = ap length is_front ∙ length-append (take size t) (255 ∷ []) ∙ ap (λ (n : ℕ). n + 1) (length-take-le size t (omega (arith, t_longer)));
      order = ap (slice_cmp nat_cmp (key_code (VarBinary size) (Text s))) is_front ∙ rw no_front at (long size 0 255 s t fits t_longer (omega (arith, short)));
    }

text_placed : (b : Bool) (size : ℕ) (s t : List ℕ) → nat_lt size (length t) ≡ b → length s ≤ size → size < 255 → IsPlaced (VarBinary size) (Text s) (Text t)
text_placed true size s t e fits short = long_text size s t fits short e
text_placed false size s t e fits short = short_text size s t fits e

pub placed : (kind : Kind) (v w : Value) → HasKey kind v → is_short kind ≡ true → has_type (type_of kind) w ≡ true → Has64Bits w → IsPlaced kind v w
placed BigInt v Null has short typed size = absurd cc
placed BigInt v (Text t) has short typed size = absurd cc
placed BigInt Null (Int n) has short typed size = absurd has.0
placed BigInt (Text s) (Int n) has short typed size = absurd has.0
placed BigInt (Int m) (Int n) has short typed size = record {
  width = length-key_code BigInt (Int n) tt;
  order = key_code-order BigInt (Int m) (Int n) tt tt has.1 size;
}
placed (VarBinary size) v Null has short typed bits = absurd cc
placed (VarBinary size) v (Int n) has short typed bits = absurd cc
placed (VarBinary size) Null (Text t) has short typed bits = absurd has.0
placed (VarBinary size) (Int m) (Text t) has short typed bits = absurd has.0
placed (VarBinary size) (Text s) (Text t) has short typed bits =
    let few : size ≤ 32 = leb-true size 32 short in
    text_placed (nat_lt size (length t)) size s t refl has.0 (omega (arith, few))
