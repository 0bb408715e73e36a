-- What an edit of a page keeps.
use Rattle.std.specs.Prelude.{◌≡◌, List, [], ℕ, take, drop, slice_set, slice_index_or, Some, Bool, if◌then◌else◌}
use Rattle.page_format.specs.Words.{kind_of, level_of, index_of, right_of, record_len_of, low_of, high_of, records_of}
use Rattle.stored_pages.specs.Words.{number_of, lsn_of}
use Rattle.page_format.specs.Shape.{HasTreeFields}

-- All stays but the records and their count: sum, number, LSN, kind and level; index, neighbour, record length and fences.
pub record KeepsFields (old new : List ℕ) : Type 0 where
  pub head : take 22 new ≡ take 22 old
  pub middle : take 184 (drop 24 new) ≡ take 184 (drop 24 old)

-- 1 for a record that is marked as removed
abbrev pub mark_byte : Bool → ℕ
mark_byte on = if on then 1 else 0

-- the records with another byte at a place of one of them
abbrev pub with_byte : ℕ → ℕ → ℕ → List (List ℕ) → List (List ℕ)
with_byte i place byte records = slice_set records i (slice_set (slice_index_or records i []) place byte)

-- The two pages of a split stand in the same tree and on the same level.
pub record SameTree (old new : List ℕ) : Type 0 where
  pub lsn : lsn_of new ≡ lsn_of old
  pub kind : kind_of new ≡ kind_of old
  pub level : level_of new ≡ level_of old
  pub index : index_of new ≡ index_of old
  pub record_len : record_len_of new ≡ record_len_of old

-- The page keeps the records before the place, and ends below the key, where the page of that number follows.
pub record IsLowerHalf (old : List ℕ) (i : ℕ) (key : List ℕ) (number : ℕ) (new : List ℕ) : Type 0 where
  pub fields : HasTreeFields new
  pub same : SameTree old new
  pub records : records_of new ≡ take i (records_of old)
  pub number_is : number_of new ≡ number_of old
  pub low : low_of new ≡ low_of old
  pub high : high_of new ≡ Some key
  pub right : right_of new ≡ number

-- The page of that number has the records from the place on, and begins at the key.
pub record IsUpperHalf (old : List ℕ) (i : ℕ) (key : List ℕ) (number : ℕ) (new : List ℕ) : Type 0 where
  pub fields : HasTreeFields new
  pub same : SameTree old new
  pub records : records_of new ≡ drop i (records_of old)
  pub number_is : number_of new ≡ number
  pub low : low_of new ≡ Some key
  pub high : high_of new ≡ high_of old
  pub right : right_of new ≡ right_of old
