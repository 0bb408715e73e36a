-- A search for the newest copy of a page.
use Rattle.std.proofs.Common.{◌≡◌, inl, inr, ℕ, ◌+◌, ◌*◌, ◌<◌, ◌≤◌, List, length, drop, refl, sym, subst, arith, length-take, length-drop}
use Rattle.std.proofs.lemmas.Bool.{cases_lt}
use Rattle.store_api.specs.Areas.{piece}
use Rattle.stored_pages.specs.Words.{lsn_of}
use Rattle.stored_pages.specs.Reading.{IsGoodPage, IsNewestCopy}

-- a piece of full size is inside
pub inside : (k : ℕ) (xs : List ℕ) → length (piece 4096 k xs) ≡ 4096 → 4096 * k + 4096 ≤ length xs
inside k xs size = omega (arith, size, length-take 4096 (drop (4096 * k) xs), length-drop (4096 * k) xs)

-- the newest one among the first so many slots
pub record IsNewestTo (double : List ℕ) (number upto newest : ℕ) : Type 0 where
  pub below : newest < 64
  pub good : IsGoodPage number (piece 4096 newest double)
  pub newest_of : (k : ℕ) → k < upto → IsGoodPage number (piece 4096 k double) → lsn_of (piece 4096 k double) ≤ lsn_of (piece 4096 newest double)

module _ (double : List ℕ) (number slot newest : ℕ) (so_far : IsNewestTo double number slot newest) where
  pub newer : slot < 64 → IsGoodPage number (piece 4096 slot double) → lsn_of (piece 4096 newest double) < lsn_of (piece 4096 slot double) → IsNewestTo double number (slot + 1) slot
  newer below good greater = record {
    below = below;
    good = good;
    newest_of = λ k upto copy. elim (cases_lt k slot) [
      | inl before ↦ let least = so_far.newest_of k before copy in omega (arith, least, greater)
      | inr last ↦ let here : k ≡ slot = omega (arith, last, upto) in subst (λ (m : ℕ). lsn_of (piece 4096 m double) ≤ lsn_of (piece 4096 slot double)) (sym here) (omega arith)
    ];
  }

  pub no_newer : (IsGoodPage number (piece 4096 slot double) → lsn_of (piece 4096 slot double) ≤ lsn_of (piece 4096 newest double)) → IsNewestTo double number (slot + 1) newest
  no_newer least = record {
    below = so_far.below;
    good = so_far.good;
    newest_of = λ k upto copy. elim (cases_lt k slot) [
      | inl before ↦ so_far.newest_of k before copy
      | inr last ↦
          let here : k ≡ slot = omega (arith, last, upto) in
          subst (λ (m : ℕ). IsGoodPage number (piece 4096 m double) → lsn_of (piece 4096 m double) ≤ lsn_of (piece 4096 newest double)) (sym here) least copy
    ];
  }

pub none_newer : (double : List ℕ) (number first : ℕ) → first < 64 → IsGoodPage number (piece 4096 first double) → IsNewestTo double number 0 first
none_newer double number first below good = record { below = below; good = good; newest_of = λ k upto copy. absurd (omega (arith, upto)) }

pub newest_is : (double : List ℕ) (number newest : ℕ) → IsNewestTo double number 64 newest → IsNewestCopy double number (piece 4096 newest double)
newest_is double number newest all = record {
  copy = record { slot = newest; below = all.below; stands = refl; good = all.good };
  newest = λ other copy.
      subst (λ (bytes : List ℕ). lsn_of bytes ≤ lsn_of (piece 4096 newest double)) copy.stands
      (all.newest_of copy.slot copy.below (subst (IsGoodPage number) (sym copy.stands) copy.good));
}
