-- Page 0 of new files.
use Rattle.std.proofs.Common.{◌≡◌, ℕ, List, [], ◌∷◌, ◌++◌, length, take, drop, replicate, ◌∙◌, ap, arith, length-drop, length-append}
use Rattle.std.specs.Int.{w32, w64, to_be_bytes, from_be_bytes}
use Rattle.std.proofs.lemmas.List.{take_all}
use Rattle.sum64.specs.Fnv.{fnv_of}
use Rattle.store_api.specs.Areas.{PassesSum}
use Rattle.stored_pages.specs.Words.{u32_at, u64_at, number_of}
use Rattle.stored_pages.proofs.Sealed.{back_part}
use Rattle.stored_pages.proofs.Sealed.{sealed}
use Rattle.stored_pages.specs.Reading.{IsGoodPage}
use Rattle.law_crashes.specs.Header.{IsHeader}

-- its fields behind the sum
abbrev pub fields : List ℕ
fields =
    0 ∷ 0 ∷ 0 ∷ 0 ∷ 0 ∷ 0 ∷ 0 ∷ 0 ∷ 0 ∷ 0 ∷ 0 ∷ 0 ∷ 1 ∷ 0 ∷ 0 ∷ 0 ∷ 0 ∷ 0 ∷ 0 ∷ 0 ∷ 0 ∷ 0 ∷ 0 ∷ 0 ∷ 73 ∷ 78 ∷ 78 ∷ 79 ∷ 68 ∷ 80 ∷ 82 ∷ 70
    ∷ 0 ∷ 0 ∷ 0 ∷ 0 ∷ 0 ∷ 1 ∷ 0 ∷ 0 ∷ 0 ∷ 0 ∷ 0 ∷ 0 ∷ 0 ∷ 0 ∷ 0 ∷ 1 ∷ 0 ∷ 0 ∷ 0 ∷ 0 ∷ 0 ∷ 0 ∷ 0 ∷ 1 ∷ 0 ∷ 0 ∷ 0 ∷ 0 ∷ 0 ∷ 0 ∷ 0 ∷ 1 ∷ []

module _ (old new tail : List ℕ) (is : old ≡ replicate 8 0 ++ (fields ++ tail)) (back : drop 8 new ≡ drop 8 old) where
  first_header : IsHeader 1 1 new
  unfolding u64_at u32_at
  first_header = record {
    marked = ap (from_be_bytes w64) (back_part new old 8 32 8 (omega arith) back ∙ ap (λ (l : List ℕ). take 8 (drop 32 l)) is);
    version = ap (from_be_bytes w32) (back_part new old 8 40 4 (omega arith) back ∙ ap (λ (l : List ℕ). take 4 (drop 40 l)) is);
    of_run = ap (from_be_bytes w64) (back_part new old 8 48 8 (omega arith) back ∙ ap (λ (l : List ℕ). take 8 (drop 48 l)) is);
    begins = ap (from_be_bytes w64) (back_part new old 8 56 8 (omega arith) back ∙ ap (λ (l : List ℕ). take 8 (drop 56 l)) is);
  }

  first_number : number_of new ≡ 0
  unfolding u32_at
  first_number = ap (from_be_bytes w32) (back_part new old 8 8 4 (omega arith) back ∙ ap (λ (l : List ℕ). take 4 (drop 8 l)) is)

module _ (old new tail : List ℕ) (sum : ℕ) (is : old ≡ replicate 8 0 ++ (fields ++ tail)) (size : length old ≡ 4096)
    (sum_is : sum ≡ fnv_of (take 4088 (drop 8 old)))
    (new_is : new ≡ to_be_bytes w64 sum ++ drop 8 old) where
  first_sealed : PassesSum new × (drop 8 new ≡ drop 8 old)
  first_sealed = sealed old new sum (sum_is ∙ ap fnv_of (take_all 4088 (drop 8 old) (omega (arith, length-drop 8 old, size)))) new_is

  pub first_good : IsGoodPage 0 new
  first_good = record {
    size = omega (arith, ap length new_is, length-append (to_be_bytes w64 sum) (drop 8 old), length-drop 8 old, size);
    sum = first_sealed.0;
    number_is = first_number old new tail is first_sealed.1;
  }

  pub first_says : IsHeader 1 1 new
  first_says = first_header old new tail is first_sealed.1
