-- How a page is read from the areas Pages and Double: from its place if that is good, else from its newest good copy.
use Rattle.std.specs.Prelude.{◌≡◌, ◌⊎◌, ℕ, ◌<◌, ◌≤◌, Option, Some, None, List, length}
use Rattle.store_api.specs.Areas.{PassesSum, piece}
use Rattle.stored_pages.specs.declared.layout.TheConstants.{PAGE, SLOTS}
use Rattle.stored_pages.specs.Words.{number_of, lsn_of}

-- the bytes of a page that pass their sum, with that number
pub record IsGoodPage (number : ℕ) (bytes : List ℕ) : Type 0 where
  pub size : length bytes ≡ PAGE
  pub sum : PassesSum bytes
  pub number_is : number_of bytes ≡ number

-- the bytes of a page's place
abbrev pub place_of : ℕ → List ℕ → List ℕ
place_of number pages = piece PAGE number pages

-- one of the copies in Double is a good page of that number
pub record IsCopyIn (double : List ℕ) (number : ℕ) (bytes : List ℕ) : Type 0 where
  pub slot : ℕ
  pub below : slot < SLOTS
  pub stands : piece PAGE slot double ≡ bytes
  pub good : IsGoodPage number bytes

-- a good copy, and no other one of that number has a greater LSN
pub record IsNewestCopy (double : List ℕ) (number : ℕ) (bytes : List ℕ) : Type 0 where
  pub copy : IsCopyIn double number bytes
  pub newest : (other : List ℕ) → IsCopyIn double number other → lsn_of other ≤ lsn_of bytes

-- the page is its place if good, else its good copy of the greatest LSN, else it isn't there
abbrev pub IsPageIn : List ℕ → List ℕ → ℕ → Option (List ℕ) → Type 0
IsPageIn pages double number (Some bytes) =
    ((place_of number pages ≡ bytes) × IsGoodPage number bytes) ⊎ ((IsGoodPage number (place_of number pages) → ⊥) × IsNewestCopy double number bytes)
IsPageIn pages double number None = (IsGoodPage number (place_of number pages) → ⊥) × ((bytes : List ℕ) → IsCopyIn double number bytes → ⊥)
