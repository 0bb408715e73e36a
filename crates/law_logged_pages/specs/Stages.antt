-- Which contents of a page its groups of the log bring on to what it is.
use Rattle.std.specs.Prelude.{◌≡◌, ℕ, ◌<◌, ◌≤◌, Bool, true, false, IsTrue, ◌==◌, if◌then◌else◌, Option, Some, None, List, [], ◌∷◌, length, drop, slice_index}
use Rattle.std.specs.List.{flat_map}
use Rattle.stored_pages.specs.declared.layout.TheConstants.{PAGE}
use Rattle.stored_pages.specs.Words.{lsn_of}
use Rattle.log_format.specs.declared.group.Group.{Group}
use Rattle.log_format.specs.declared.group.Record.{Record}
use Rattle.log_format.specs.declared.group.Record.TheVariants.{Put, Fresh, RowPut, RowRemove, NewTable}
use Rattle.mini_txn.specs.Edits.{blank}
use Rattle.law_logged_pages.specs.Applied.{logical}

-- two contents of a page that differ at most in their sums
pub record SameButSum (a b : List ℕ) : Type 0 where
  pub size : length a ≡ length b
  pub same : drop 8 a ≡ drop 8 b

-- the first so many are bytes: a list of numbers by itself needn't be
abbrev pub AreBytes : ℕ → List ℕ → Type 0
AreBytes count bytes = (i : ℕ) → i < count → slice_index bytes i < 256

-- a whole page, which no group of a run has changed that begins with this LSN
pub record IsBase (first : ℕ) (bytes : List ℕ) : Type 0 where
  pub size : length bytes ≡ PAGE
  pub before : lsn_of bytes < first

-- of the records of that page the first one, if any, makes it zeros
abbrev pub begins_fresh : ℕ → List Record → Bool
begins_fresh page [] = true
begins_fresh page (Put other at bytes ∷ more) = if other == page then false else begins_fresh page more
begins_fresh page (Fresh other ∷ more) = if other == page then true else begins_fresh page more
begins_fresh page (RowPut table row ∷ more) = begins_fresh page more
begins_fresh page (RowRemove table key ∷ more) = begins_fresh page more
begins_fresh page (NewTable schema ∷ more) = begins_fresh page more

abbrev pub records_in : List Group → List Record
records_in groups = flat_map (λ g. g.records) groups

-- The page is what it was after some of the first so many groups.
pub record WasOnce (base : ℕ → List ℕ) (groups : List Group) (count page : ℕ) (bytes : List ℕ) : Type 0 where
  pub after : ℕ
  pub upto : after ≤ count
  pub same : SameButSum bytes (logical base groups after page)

-- Nobody had written the page when the run began, and the log makes it before it changes it.
pub record IsUnwritten (base : ℕ → List ℕ) (groups : List Group) (page : ℕ) : Type 0 where
  pub zeros : base page ≡ blank
  pub fresh : IsTrue (begins_fresh page (records_in groups))

-- what may be found of a page whose first so many groups are on the disk for good: bytes that it had once, or none while it is unwritten
abbrev pub IsStage : (ℕ → List ℕ) → List Group → ℕ → ℕ → Option (List ℕ) → Type 0
IsStage base groups count page (Some bytes) = WasOnce base groups count page bytes
IsStage base groups count page None = IsUnwritten base groups page

-- recovery takes zeros for a page that it doesn't find
abbrev pub or_zeros : Option (List ℕ) → List ℕ
or_zeros None = blank
or_zeros (Some bytes) = bytes
