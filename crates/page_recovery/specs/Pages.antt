-- What contracts see of pages in memory: under each number the page's bytes, if it is there.
use Rattle.std.specs.Prelude.{◌≡◌, ◌≢◌, ℕ, ◌^◌, ◌<◌, Option, None, List, length, slice_index_or}
use Rattle.stored_pages.specs.declared.layout.TheConstants.{PAGE}
use Rattle.law_logged_pages.specs.Stages.{or_zeros}

-- the page's bytes; one that isn't there is zeros
abbrev pub page_of : List (Option (List ℕ)) → ℕ → List ℕ
page_of slots page = or_zeros (slice_index_or slots page None)

-- each page is whole, and its number fits a page's field
pub record ArePages (slots : List (Option (List ℕ))) : Type 0 where
  pub whole : (page : ℕ) → length (page_of slots page) ≡ PAGE
  pub few : length slots < 2 ^ 32

-- The page has these bytes, and the others are as they were.
pub record HasInstead (page : ℕ) (bytes : List ℕ) (old new : List (Option (List ℕ))) : Type 0 where
  pub count : length new ≡ length old
  pub here : page_of new page ≡ bytes
  pub elsewhere : (other : ℕ) → other ≢ page → page_of new other ≡ page_of old other

-- Each page becomes what this makes of it.
pub record BecomeBy (change : ℕ → List ℕ → List ℕ) (old new : List (Option (List ℕ))) : Type 0 where
  pub count : length new ≡ length old
  pub pages : (page : ℕ) → page_of new page ≡ change page (page_of old page)
