-- What is read has the same key as what was written, so it is the same.
use Rattle.std.proofs.Common.{◌≡◌, sym, ◌∙◌, rules, SFits, w64, ◌++◌, ◌∷◌, [], length, ◌≤◌}
use Rattle.std.proofs.lemmas.Int.{to_z-of_z}
use Rattle.inno_types.specs.declared.value.Kind.TheVariants.{BigInt, VarBinary}
use Rattle.inno_types.specs.declared.value.Value.TheVariants.{Int, Text}
use Rattle.key_codec.specs.Keys.{IsOfKind, key_code, raised, padded}
use Rattle.key_codec.specs.Numbers.{u64_bytes}
use Rattle.key_codec.proofs.Once.{same_key}
use Rattle.key_codec.proofs.read.get_key.Goals as goal

pub returns-in_ok-number-in-BigInt-clause-back : goal.returns-in_ok-number-in-BigInt-clause-back
returns-in_ok-number-in-BigInt-clause-back c = λ value has e.
    let n = c.in_ok-number-in-BigInt.number in
    let in_range : SFits w64 n = search rules in
    let found : c.args.bytes.now ≡ u64_bytes (raised n) = search rules in
    let is_number : IsOfKind BigInt value = rw c.in-BigInt.is at has.0 in
    let key : c.args.bytes.now ≡ key_code BigInt value = rw c.in-BigInt.is at e in
    rw (to_z-of_z w64 n in_range) (same_key BigInt (Int n) value tt is_number in_range has.1 (sym found ∙ key))

pub returns-in_ok-from_slice-in-VarBinary-clause-back : goal.returns-in_ok-from_slice-in-VarBinary-clause-back
returns-in_ok-from_slice-in-VarBinary-clause-back c = λ value has e.
    let text = c.in_ok-text-in-VarBinary.text.now in
    let size = c.in-VarBinary.size in
    let read : c.from_vec.result ≡ text = search rules in
    let short : length text ≤ size = search rules in
    let found : c.args.bytes.now ≡ padded size text ++ length text ∷ [] = search rules in
    let is_text : IsOfKind (VarBinary size) value = rw c.in-VarBinary.is at has.0 in
    let key : c.args.bytes.now ≡ key_code (VarBinary size) value = rw c.in-VarBinary.is at e in
    rw read (same_key (VarBinary size) (Text text) value short is_text tt has.1 (sym found ∙ key))
