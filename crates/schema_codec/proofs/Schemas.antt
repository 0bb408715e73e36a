-- Schemas are read as they are spelled.
use Rattle.std.proofs.Common.{◌≡◌, inl, inr, ℕ, suc, Bool, true, false, cond, eqb, List, [], ◌∷◌, ◌++◌, Option, Some, None, refl, sym, subst, arith}
use Rattle.std.proofs.lemmas.Bool.{cases_eq}
use Rattle.std.proofs.lemmas.Bool.Decides.{nat_tests}
use Rattle.inno_types.specs.declared.value.Kind.{Kind}
use Rattle.inno_types.specs.declared.value.Kind.TheVariants.{BigInt, VarBinary}
use Rattle.schema_codec.specs.Schema.{kind_bytes, IsKind, flag_bytes, column_bytes, IsColumn, key_bytes, IsKey, schema_bytes, IsSchema}
use Rattle.schema_codec.specs.Reading.{u8_at, kind_at, flag_at, column_at, key_at, schema_at}
use Rattle.schema_codec.proofs.Fields.{IsBytes, some_is, Takes}
use Rattle.schema_codec.proofs.Spells.{Spells, u8_spells, both_spells, make_spells, counted_spells, name_spells}

kind_takes : (bytes : List ℕ) (x : Kind × List ℕ) → IsBytes bytes → kind_at bytes ≡ Some x → Takes bytes (kind_bytes x.0) x.1 × IsKind x.0
unfolding kind_at u8_at
kind_takes [] x fits e = absurd cc
kind_takes (k ∷ []) x fits e = absurd cc
kind_takes (k ∷ size ∷ rest) x fits e =
    let big : Option (Kind × List ℕ) = cond (eqb size 0) (Some (BigInt, rest)) None in
    let small : Option (Kind × List ℕ) = cond (eqb k 2) (Some (VarBinary size, rest)) None in
    let P = λ (kind size : ℕ). Takes (kind ∷ size ∷ rest) (kind_bytes x.0) x.1 × IsKind x.0 in
    let Q = λ (kind size : ℕ) (y : Kind × List ℕ). Takes (kind ∷ size ∷ rest) (kind_bytes y.0) y.1 × IsKind y.0 in
    elim (cases_eq k 1) [
      | inl is ↦
          let read : big ≡ Some x = rw is at e in
          elim (cases_eq size 0) [
            | inl zero_size ↦
                let big_one : Option (Kind × List ℕ) = Some (BigInt, rest) in
                let found : big_one ≡ Some x = rw zero_size at read in
                subst (λ (j : ℕ). P j size) (sym is) (subst (P 1) (sym zero_size) (subst (Q 1 0) (some_is (BigInt, rest) x found) (record { parts = refl; rest_fits = λ i. fits (suc (suc i)) }, tt)))
            | inr other ↦ let none : big ≡ None = grind (arith, nat_tests) in absurd (cc (none, read))
          ]
      | inr not_big ↦ elim (cases_eq k 2) [
        | inl is ↦
            let sized : Option (Kind × List ℕ) = Some (VarBinary size, rest) in
            let found : sized ≡ Some x = rw is at e in
            subst (λ (j : ℕ). P j size) (sym is) (subst (Q 2 size) (some_is (VarBinary size, rest) x found) (record { parts = refl; rest_fits = λ i. fits (suc (suc i)) }, fits 1))
        | inr neither ↦
            let none : cond (eqb k 1) big small ≡ None = grind (arith, nat_tests) in
            absurd (cc (none, e))
      ]
    ]

kind_again : (k : Kind) (rest : List ℕ) → IsKind k → kind_at (kind_bytes k ++ rest) ≡ Some (k, rest)
unfolding kind_at u8_at
kind_again BigInt rest is = refl
kind_again (VarBinary size) rest is = refl

kind_spells : Spells kind_at kind_bytes IsKind
kind_spells = record { takes = kind_takes; again = kind_again }

abbrev IsFlag : Bool → Type 0
IsFlag b = Unit {0}

flag_takes : (bytes : List ℕ) (x : Bool × List ℕ) → IsBytes bytes → flag_at bytes ≡ Some x → Takes bytes (flag_bytes x.0) x.1 × IsFlag x.0
unfolding flag_at u8_at
flag_takes [] x fits e = absurd cc
flag_takes (b ∷ rest) x fits e =
    let unset : Option (Bool × List ℕ) = Some (false, rest) in
    let set : Option (Bool × List ℕ) = Some (true, rest) in
    let P = λ (k : ℕ). Takes (k ∷ rest) (flag_bytes x.0) x.1 × IsFlag x.0 in
    let Q = λ (k : ℕ) (y : Bool × List ℕ). Takes (k ∷ rest) (flag_bytes y.0) y.1 × IsFlag y.0 in
    elim (cases_eq b 0) [
      | inl is ↦ let found : unset ≡ Some x = rw is at e in subst P (sym is) (subst (Q 0) (some_is (false, rest) x found) (record { parts = refl; rest_fits = λ i. fits (suc i) }, tt))
      | inr not_zero ↦ elim (cases_eq b 1) [
        | inl is ↦ let found : set ≡ Some x = rw is at e in subst P (sym is) (subst (Q 1) (some_is (true, rest) x found) (record { parts = refl; rest_fits = λ i. fits (suc i) }, tt))
        | inr neither ↦
            let none : cond (eqb b 0) unset (cond (eqb b 1) set None) ≡ None = grind (arith, nat_tests) in
            absurd (cc (none, e))
      ]
    ]

flag_again : (b : Bool) (rest : List ℕ) → IsFlag b → flag_at (flag_bytes b ++ rest) ≡ Some (b, rest)
unfolding flag_at u8_at
flag_again true rest is = refl
flag_again false rest is = refl

flag_spells : Spells flag_at flag_bytes IsFlag
flag_spells = record { takes = flag_takes; again = flag_again }

column_spells : Spells column_at column_bytes IsColumn
unfolding column_at
column_spells =
    make_spells _ _ _ (both_spells _ _ _ _ _ _ (both_spells _ _ _ _ _ _ name_spells kind_spells) flag_spells)
    (λ p. record { name = p.0.0; kind = p.0.1; not_null = p.1 }) (λ c. ((c.name, c.kind), c.not_null)) column_bytes IsColumn
    (λ c. refl) (λ p. refl) (λ p is. is.0) (λ c is. (is, tt))

key_spells : Spells key_at key_bytes IsKey
unfolding key_at
key_spells =
    make_spells _ _ _ (both_spells _ _ _ _ _ _ name_spells u8_spells)
    (λ p. record { name = p.0; column = p.1 }) (λ k. (k.name, k.column)) key_bytes IsKey
    (λ k. refl) (λ p. refl) (λ p is. is) (λ k is. is)

pub schema_spells : Spells schema_at schema_bytes IsSchema
unfolding schema_at
schema_spells =
    make_spells _ _ _ (both_spells _ _ _ _ _ _ (both_spells _ _ _ _ _ _ (both_spells _ _ _ _ _ _ name_spells (counted_spells _ _ _ column_spells)) u8_spells) (counted_spells _ _ _ key_spells))
    (λ p. record { name = p.0.0.0; columns = p.0.0.1; primary = p.0.1; keys = p.1 }) (λ s. (((s.name, s.columns), s.primary), s.keys)) schema_bytes IsSchema
    (λ s. refl) (λ p. refl) (λ p is. (is.0.0.0, is.0.0.1, is.0.1, is.1)) (λ s is. (((is.0, is.1), is.2), is.3))
