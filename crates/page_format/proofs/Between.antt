-- Records and fences: what the tests of a page's order tell.
use Rattle.std.proofs.Common.{◌≡◌, ◌≢◌, ℕ, ◌-◌, ◌<◌, ◌==◌, List, [], length, take, get_or, Bool, false, Option, Some, None, refl, sym, ap, ◌∙◌, subst, arith}
use Rattle.std.specs.Prelude.{MatchBool, not, if◌then◌else◌}
use Rattle.std.specs.declared.cmp.Ordering.{Ordering}
use Rattle.std.specs.declared.cmp.Ordering.TheVariants.{Less, Equal, Greater}
use Rattle.std.specs.Ordering.{is_lt}
use Rattle.std.proofs.lemmas.Bool.Decides.{nat_tests}
use Rattle.page_format.specs.Words.{fence}
use Rattle.page_format.specs.Found.{key_cmp}
use Rattle.page_format.specs.Fences.{BeginsInside, EndsInside}

not_same : (m n : ℕ) → m ≢ n → m == n ≡ false
not_same m n apart = grind (arith, nat_tests)

fence_is : (len : ℕ) (bytes : List ℕ) → len ≢ 255 → fence len bytes ≡ Some (take len bytes)
fence_is len bytes there = ap (λ (b : Bool). if b then None else Some (take len bytes)) (not_same len 255 there)

first_told : (n : ℕ) (o : Ordering) → 0 < n → MatchBool (not (is_lt o)) (0 < n → o ≢ Less) ((0 < n → o ≢ Less) → ⊥)
first_told n Less some = λ inside. inside some refl
first_told n Equal some = λ any e. absurd cc
first_told n Greater some = λ any e. absurd cc

last_told : (n : ℕ) (o : Ordering) → 0 < n → MatchBool (is_lt o) (0 < n → o ≡ Less) ((0 < n → o ≡ Less) → ⊥)
last_told n Less some = λ any. refl
last_told n Equal some = λ inside. let e = inside some in absurd cc
last_told n Greater some = λ inside. let e = inside some in absurd cc

abbrev Tells : Bool → Type 0 → Type 0
Tells r P = MatchBool r P (P → ⊥)

pub begins_told : (n : ℕ) (a low : List ℕ) (rs : List (List ℕ)) (r : Bool) → n ≢ 255 → low ≡ take n a → 0 < length rs → r ≡ not (is_lt (key_cmp low (get_or rs 0 [])))
    → MatchBool r (BeginsInside (fence n a) rs) (BeginsInside (fence n a) rs → ⊥)
begins_told n a low rs r there low_is some r_is =
    let is : fence n a ≡ Some low = fence_is n a there ∙ ap Some (sym low_is) in
    let told = subst (λ (t : Bool). Tells t (BeginsInside (Some low) rs)) (sym r_is) (first_told (length rs) (key_cmp low (get_or rs 0 [])) some) in
    subst (λ (f : Option (List ℕ)). Tells r (BeginsInside f rs)) (sym is) told

pub ends_told : (n last : ℕ) (a high : List ℕ) (rs : List (List ℕ)) (r : Bool) → n ≢ 255 → high ≡ take n a → 0 < length rs → last ≡ length rs - 1 → r ≡ is_lt (key_cmp high (get_or rs last []))
    → MatchBool r (EndsInside (fence n a) rs) (EndsInside (fence n a) rs → ⊥)
ends_told n last a high rs r there high_is some last_is r_is =
    let is : fence n a ≡ Some high = fence_is n a there ∙ ap Some (sym high_is) in
    let here = r_is ∙ ap (λ (k : ℕ). is_lt (key_cmp high (get_or rs k []))) last_is in
    let told = subst (λ (t : Bool). Tells t (EndsInside (Some high) rs)) (sym here) (last_told (length rs) (key_cmp high (get_or rs (length rs - 1) [])) some) in
    subst (λ (f : Option (List ℕ)). Tells r (EndsInside f rs)) (sym is) told
