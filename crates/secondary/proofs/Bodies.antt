-- What stands behind the flag of a field, and the key of the same value.
use Rattle.std.proofs.Common.{◌≡◌, ℕ, List, [], ◌∷◌, ◌++◌, length, refl}
use Rattle.std.specs.Prelude.{ℤ, FitsSigned}
use Rattle.std.specs.Int.{w64, cast_unsigned}
use Rattle.inno_types.specs.declared.value.Kind.{Kind}
use Rattle.inno_types.specs.declared.value.Kind.TheVariants.{BigInt, VarBinary}
use Rattle.inno_types.specs.declared.value.Value.{Value}
use Rattle.inno_types.specs.declared.value.Value.TheVariants.{Null, Int, Text}
use Rattle.key_codec.specs.Keys.{HasKey, raised, padded, key_code}
use Rattle.key_codec.specs.Numbers.{u64_bytes}
use Rattle.row_codec.specs.Rows.{body_code}

pub record IsNumber (kind : Kind) (value : Value) (body : List ℕ) : Type 0 where
  pub n : ℤ
  pub fits : FitsSigned w64 n
  pub body_is : body ≡ u64_bytes (cast_unsigned w64 n)
  pub key_is : key_code kind value ≡ u64_bytes (raised n)

pub number_there : (kind : Kind) (value : Value) (body : List ℕ) → kind ≡ BigInt → HasKey kind value → body ≡ body_code kind value → IsNumber kind value body
number_there (VarBinary size) value body big has is = absurd cc
number_there BigInt Null body big has is = absurd has.0
number_there BigInt (Int n) body big has is = record { n = n; fits = has.1; body_is = is; key_is = refl }
number_there BigInt (Text text) body big has is = absurd has.0

pub record IsText (kind : Kind) (value : Value) (body : List ℕ) : Type 0 where
  pub len : ℕ
  pub text : List ℕ
  pub body_is : body ≡ len ∷ text
  pub key_is : key_code kind value ≡ text ++ len ∷ []

pub text_there : (kind : Kind) (size : ℕ) (value : Value) (body : List ℕ) → kind ≡ VarBinary size → HasKey kind value → body ≡ body_code kind value → IsText kind value body
text_there BigInt size value body var has is = absurd cc
text_there (VarBinary n) size Null body var has is = absurd has.0
text_there (VarBinary n) size (Int m) body var has is = absurd has.0
text_there (VarBinary n) size (Text text) body var has is = record { len = length text; text = padded n text; body_is = is; key_is = refl }
