-- What a read of a page's place tells.
use Rattle.std.proofs.Common.{◌≡◌, ℕ, ◌*◌, ◌/◌, ◌≤◌, List, length, take, drop, sym, ◌∙◌, subst, arith, length-take, length-drop}
use Rattle.std.proofs.lemmas.List.{take_all}
use Rattle.stored_pages.specs.Reading.{IsGoodPage, place_of}

module _ (page len : ℕ) (place area : List ℕ) (size : length place ≡ 4096) (read : take len place ≡ place_of page area) where
  whole : 4096 ≤ len → place_of page area ≡ place
  whole long = sym read ∙ take_all len place (omega (arith, size, long))

  pub not_good : 4096 ≤ len → ((n : ℕ) → IsGoodPage n place → ⊥) → IsGoodPage page (place_of page area) → ⊥
  not_good long bad good = bad page (subst (IsGoodPage page) (whole long) good)

-- a page past the end of the area
pub past_end : (page count len : ℕ) (area : List ℕ) → len ≡ length area → len / 4096 ≤ count → count ≤ page → IsGoodPage page (place_of page area) → ⊥
past_end page count len area is few past good =
    absurd (omega (arith, good.size, length-take 4096 (drop (4096 * page) area), length-drop (4096 * page) area, is, few, past))
