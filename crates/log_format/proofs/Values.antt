-- Values are read as they are spelled.
use Rattle.std.proofs.Common.{◌≡◌, inl, inr, ℕ, suc, cond, eqb, List, [], ◌∷◌, ◌++◌, Option, Some, None, refl, sym, ap, subst, arith}
use Rattle.std.specs.Int.{w64, cast_signed, cast_unsigned}
use Rattle.std.proofs.lemmas.Bool.{cases_eq}
use Rattle.std.proofs.lemmas.Bool.Decides.{nat_tests}
use Rattle.std.proofs.lemmas.Int.{of_z-to_z, to_z-of_z}
use Rattle.std.proofs.Math.Facts.{Fits-of_z, sfits_to_z}
use Rattle.inno_types.specs.declared.value.Value.{Value}
use Rattle.inno_types.specs.declared.value.Value.TheVariants.{Null, Int, Text}
use Rattle.schema_codec.specs.Numbers.{u64_bytes}
use Rattle.schema_codec.specs.Reading.{◌>>=◌, u8_at, u64_at, name_at}
use Rattle.schema_codec.proofs.Fields.{IsBytes, bind_some, some_is, Takes, u64_takes, u64_again}
use Rattle.schema_codec.proofs.Spells.{Spells, name_spells}
use Rattle.log_format.specs.Group.{value_bytes, IsValue}
use Rattle.log_format.specs.Reading.{value_at}

int_takes : (bytes : List ℕ) (x : Value × List ℕ) → IsBytes bytes → (u64_at bytes >>= λ n. Some (Int (cast_signed w64 n.0), n.1)) ≡ Some x → Takes (1 ∷ bytes) (value_bytes x.0) x.1 × IsValue x.0
int_takes bytes x fits e =
    let a = bind_some (u64_at bytes) (λ n. Some (Int (cast_signed w64 n.0), n.1)) x e in
    let number = u64_takes bytes a.0.0 a.0.1 fits a.1 in
    let bits : cast_unsigned w64 (cast_signed w64 a.0.0) ≡ a.0.0 = of_z-to_z w64 a.0.0 number.1 in
    let made : Takes (1 ∷ bytes) (1 ∷ u64_bytes a.0.0) a.0.1 = record { parts = ap (λ (l : List ℕ). 1 ∷ l) number.0.parts; rest_fits = number.0.rest_fits } in
    subst (λ (y : Value × List ℕ). Takes (1 ∷ bytes) (value_bytes y.0) y.1 × IsValue y.0) (some_is (Int (cast_signed w64 a.0.0), a.0.1) x a.2)
    (subst (λ (n : ℕ). Takes (1 ∷ bytes) (1 ∷ u64_bytes n) a.0.1) (sym bits) made, sfits_to_z (record { fits = number.1 }))

text_takes : (bytes : List ℕ) (x : Value × List ℕ) → IsBytes bytes → (name_at bytes >>= λ text. Some (Text text.0, text.1)) ≡ Some x → Takes (2 ∷ bytes) (value_bytes x.0) x.1 × IsValue x.0
text_takes bytes x fits e =
    let a = bind_some (name_at bytes) (λ text. Some (Text text.0, text.1)) x e in
    let text = name_spells.takes bytes a.0 fits a.1 in
    subst (λ (y : Value × List ℕ). Takes (2 ∷ bytes) (value_bytes y.0) y.1 × IsValue y.0) (some_is (Text a.0.0, a.0.1) x a.2)
    (record { parts = ap (λ (l : List ℕ). 2 ∷ l) text.0.parts; rest_fits = text.0.rest_fits }, text.1)

value_takes : (bytes : List ℕ) (x : Value × List ℕ) → IsBytes bytes → value_at bytes ≡ Some x → Takes bytes (value_bytes x.0) x.1 × IsValue x.0
unfolding value_at u8_at
value_takes [] x fits e = absurd cc
value_takes (b ∷ rest) x fits e =
    let int : Option (Value × List ℕ) = u64_at rest >>= λ n. Some (Int (cast_signed w64 n.0), n.1) in
    let text : Option (Value × List ℕ) = name_at rest >>= λ t. Some (Text t.0, t.1) in
    let P = λ (k : ℕ). Takes (k ∷ rest) (value_bytes x.0) x.1 × IsValue x.0 in
    elim (cases_eq b 0) [
      | inl null ↦
          let none : Option (Value × List ℕ) = Some (Null, rest) in
          let read : none ≡ Some x = rw null at e in
          subst P (sym null) (subst (λ (y : Value × List ℕ). Takes (0 ∷ rest) (value_bytes y.0) y.1 × IsValue y.0) (some_is (Null, rest) x read) (record { parts = refl; rest_fits = λ i. fits (suc i) }, tt))
      | inr not_null ↦ elim (cases_eq b 1) [
        | inl is ↦ let read : int ≡ Some x = rw is at e in subst P (sym is) (int_takes rest x (λ i. fits (suc i)) read)
        | inr not_int ↦ elim (cases_eq b 2) [
          | inl is ↦ let read : text ≡ Some x = rw is at e in subst P (sym is) (text_takes rest x (λ i. fits (suc i)) read)
          | inr neither ↦
              let null_one : Option (Value × List ℕ) = Some (Null, rest) in
              let none : cond (eqb b 0) null_one (cond (eqb b 1) int (cond (eqb b 2) text None)) ≡ None = grind (arith, nat_tests) in
              absurd (cc (none, e))
        ]
      ]
    ]

value_again : (v : Value) (rest : List ℕ) → IsValue v → value_at (value_bytes v ++ rest) ≡ Some (v, rest)
unfolding value_at u8_at
value_again Null rest is = refl
value_again (Int z) rest is = rw (u64_again (cast_unsigned w64 z) rest ((Fits-of_z is).fits)) (ap (λ y. Some (Int y, rest)) (to_z-of_z w64 z is))
value_again (Text text) rest is = rw (name_spells.again text rest is) refl

pub value_spells : Spells value_at value_bytes IsValue
value_spells = record { takes = value_takes; again = value_again }
