-- What a read of a page's place tells.
use Rattle.std.proofs.Common.{◌≡◌, inl, inr, ℕ, ◌*◌, ◌<◌, ◌≤◌, Bool, List, length, take, drop, sym, ◌∙◌, ap, subst, arith, length-take, nat_eq}
use Rattle.std.specs.Prelude.{MatchBool}
use Rattle.std.proofs.lemmas.Bool.{cases_Bool}
use Rattle.std.proofs.lemmas.Bool.Decides.{nat_tests}
use Rattle.std.proofs.lemmas.List.{take_all}
use Rattle.stored_pages.specs.Reading.{IsGoodPage, place_of}

module _ (number at len : ℕ) (into seen : List ℕ) (size : length into ≡ 4096) (is_at : at ≡ number) (read : take len into ≡ take (length into) (drop (4096 * at) seen)) where
  place_is : place_of number seen ≡ take len into
  place_is = (λ i. take (sym size i) (drop (4096 * sym is_at i) seen)) ∙ sym read

  pub too_short : len < 4096 → IsGoodPage number (place_of number seen) → ⊥
  too_short short good = absurd (omega (arith, good.size, ap length place_is, length-take len into, short))

  whole : 4096 ≤ len → into ≡ place_of number seen
  whole long = sym (place_is ∙ take_all len into (omega (arith, size, long)))

  pub not_good : 4096 ≤ len → ((n : ℕ) → IsGoodPage n into → ⊥) → IsGoodPage number (place_of number seen) → ⊥
  not_good long bad good = bad number (subst (IsGoodPage number) (sym (whole long)) good)

  pub same_number : (found : ℕ) → 4096 ≤ len → IsGoodPage found into → MatchBool (nat_eq found number) (IsGoodPage number (place_of number seen)) (IsGoodPage number (place_of number seen) → ⊥)
  same_number found long good =
      let place = place_of number seen in
      let there : IsGoodPage found place = subst (IsGoodPage found) (whole long) good in
      let Both = λ (b : Bool). MatchBool b (IsGoodPage number place) (IsGoodPage number place → ⊥) in
      elim (cases_Bool (nat_eq found number)) [
        | inl alike ↦ let same : found ≡ number = grind (arith, nat_tests) in subst Both (sym alike) (subst (λ (n : ℕ). IsGoodPage n place) same there)
        | inr unlike ↦ subst Both (sym unlike) (λ (other : IsGoodPage number place). let same : found ≡ number = sym there.number_is ∙ other.number_is in absurd (grind (arith, nat_tests)))
      ]
