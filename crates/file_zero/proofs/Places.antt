-- What a read of the first page's place, and one of the copies, tell.
use Rattle.std.proofs.Common.{◌≡◌, inl, inr, ℕ, ◌<◌, ◌≤◌, Bool, true, false, nat_eq, Some, None, List, ◌++◌, length, take, drop, sym, ◌∙◌, ap, subst, arith, length-take}
use Rattle.std.specs.Prelude.{MatchBool}
use Rattle.std.proofs.lemmas.Bool.{cases_Bool}
use Rattle.std.proofs.lemmas.Bool.Decides.{nat_tests}
use Rattle.std.proofs.lemmas.List.{take_all, take_at}
use Rattle.store_api.proofs.Pieces.{piece-take}
use Rattle.sum64.specs.Fnv.{fnv_of}
use Rattle.stored_pages.specs.Words.{u64_at}
use Rattle.stored_pages.specs.Reading.{IsGoodPage, place_of, IsCopyIn, IsNewestCopy, IsPageIn}
use Rattle.file_zero.specs.Reading.{IsRead}
use Rattle.file_zero.specs.Refused.{IsDamaged}

module _ (len : ℕ) (place pages : List ℕ) (size : length place ≡ 4096) (read : IsRead len place pages) where
  place_is : place_of 0 pages ≡ take len place
  place_is = ap (λ (n : ℕ). take n pages) (sym size) ∙ sym read

  pub too_short : len < 4096 → IsGoodPage 0 (place_of 0 pages) → ⊥
  too_short short good = absurd (omega (arith, good.size, ap length place_is, length-take len place, short))

  pub few_bytes : len < 4096 → length pages < 4096
  few_bytes short = omega (arith, ap length place_is, length-take 4096 pages, length-take len place, short, size)

  pub whole : 4096 ≤ len → place_of 0 pages ≡ place
  whole long = place_is ∙ take_all len place (omega (arith, size, long))

  pub not_good : 4096 ≤ len → ((n : ℕ) → IsGoodPage n place → ⊥) → IsGoodPage 0 (place_of 0 pages) → ⊥
  not_good long bad good = bad 0 (subst (IsGoodPage 0) (whole long) good)

  pub first_or_other : (found : ℕ) → 4096 ≤ len → IsGoodPage found place
      → MatchBool (nat_eq found 0) ((place_of 0 pages ≡ place) × IsGoodPage 0 place) (IsGoodPage 0 (place_of 0 pages) → ⊥)
  first_or_other found long good =
      let Both = λ (b : Bool). MatchBool b ((place_of 0 pages ≡ place) × IsGoodPage 0 place) (IsGoodPage 0 (place_of 0 pages) → ⊥) in
      elim (cases_Bool (nat_eq found 0)) [
        | inl alike ↦ let same : found ≡ 0 = grind (arith, nat_tests) in subst Both (sym alike) (whole long, subst (λ (n : ℕ). IsGoodPage n place) same good)
        | inr unlike ↦
            subst Both (sym unlike)
            (λ (other : IsGoodPage 0 (place_of 0 pages)).
            let same : found ≡ 0 = sym good.number_is ∙ (subst (IsGoodPage 0) (whole long) other).number_is in
            absurd (grind (arith, nat_tests)))
      ]

  pub damaged : 4096 ≤ len → IsDamaged 0 (u64_at 0 place) (fnv_of (drop 8 place)) pages
  damaged long =
      let same = whole long in
      record {
        at = λ i. 0;
        long = omega (arith, ap length same, length-take 4096 pages, size);
        says = ap (u64_at 0) (sym same);
        is = ap (λ (l : List ℕ). fnv_of (drop 8 l)) (sym same);
      }

-- the copies are the first 262,144 bytes of their area
module _ (double : List ℕ) where
  to_area : (number : ℕ) (bytes : List ℕ) → IsCopyIn (take 262144 double) number bytes → IsCopyIn double number bytes
  to_area number bytes copy =
      record { slot = copy.slot; below = copy.below; stands = sym (piece-take 4096 64 copy.slot double copy.below) ∙ copy.stands; good = copy.good }

  from_area : (number : ℕ) (bytes : List ℕ) → IsCopyIn double number bytes → IsCopyIn (take 262144 double) number bytes
  from_area number bytes copy =
      record { slot = copy.slot; below = copy.below; stands = piece-take 4096 64 copy.slot double copy.below ∙ copy.stands; good = copy.good }

  newest_there : (number : ℕ) (bytes : List ℕ) → IsNewestCopy (take 262144 double) number bytes → IsNewestCopy double number bytes
  newest_there number bytes newest =
      record { copy = to_area number bytes newest.copy; newest = λ other copy. newest.newest other (from_area number other copy) }

  module _ (copies : List ℕ) (are : copies ≡ take 262144 double) (pages : List ℕ) (bad : IsGoodPage 0 (place_of 0 pages) → ⊥) where
    pub page_of_copy : (page : List ℕ) → IsNewestCopy copies 0 page → IsPageIn pages double 0 (Some page)
    page_of_copy page newest = inr (bad, newest_there 0 page (subst (λ (l : List ℕ). IsNewestCopy l 0 page) are newest))

    pub no_first_page : ((bytes : List ℕ) → IsCopyIn copies 0 bytes → ⊥) → IsPageIn pages double 0 None
    no_first_page none = (bad, λ bytes copy. none bytes (subst (λ (l : List ℕ). IsCopyIn l 0 bytes) (sym are) (from_area 0 bytes copy)))

-- what a read gives of an area, in a vector of so many bytes
pub read_into : (n len size : ℕ) (vec new old area : List ℕ) → vec ≡ take len (new ++ drop (length new) old) → length new ≡ len → len ≡ size
    → take n new ≡ take (length new) area → take n vec ≡ take size area
read_into n len size vec new old area is long same read =
    ap (take n) (is ∙ take_at new (drop (length new) old) len long) ∙ read ∙ ap (λ (k : ℕ). take k area) (long ∙ same)

-- what is known of the first page by the test of its place
module _ (len : ℕ) (place : List ℕ) (good : Bool) (test : (pages : List ℕ) → IsRead len place pages
    → MatchBool good ((place_of 0 pages ≡ place) × IsGoodPage 0 place) (IsGoodPage 0 (place_of 0 pages) → ⊥)) where
  pub page_in_place : good ≡ true → (pages double : List ℕ) → IsRead len place pages → IsPageIn pages double 0 (Some place)
  page_in_place is pages double read =
      inl (subst (λ (b : Bool). MatchBool b ((place_of 0 pages ≡ place) × IsGoodPage 0 place) (IsGoodPage 0 (place_of 0 pages) → ⊥)) is (test pages read))

  pub bad_in_place : good ≡ false → (pages : List ℕ) → IsRead len place pages → IsGoodPage 0 (place_of 0 pages) → ⊥
  bad_in_place is pages read =
      subst (λ (b : Bool). MatchBool b ((place_of 0 pages ≡ place) × IsGoodPage 0 place) (IsGoodPage 0 (place_of 0 pages) → ⊥)) is (test pages read)
