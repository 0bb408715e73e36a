-- Why files are not mounted.
use Rattle.std.specs.Prelude.{◌≡◌, ◌≢◌, ◌⊎◌, ℕ, ◌<◌, ◌≤◌, List, length, drop, None, Some}
use Rattle.sum64.specs.Fnv.{fnv_of}
use Rattle.store_api.specs.declared.disk.Area.TheVariants as area
use Rattle.store_api.specs.declared.answers.MountBad.{MountBad}
use Rattle.store_api.specs.declared.answers.MountBad.TheVariants.{Disk, NotInitialised, Version, Damaged, NoMemory, TooLarge}
use Rattle.store_api.specs.Areas.{State}
use Rattle.store_api.specs.Causes.{Rose}
use Rattle.store_api.specs.Past.{Past, Now}
use Rattle.inno_db.specs.Database.{Database}
use Rattle.inno_model.specs.Past.{changed}
use Rattle.sql_history.specs.Counts.{rows_in, capped, most_rows}
use Rattle.log_format.specs.declared.group.Group.{Group}
use Rattle.stored_pages.specs.Words.{u64_at}
use Rattle.stored_pages.specs.Reading.{IsPageIn, place_of}
use Rattle.law_crashes.specs.Header.{HasMagic, version_of}
use Rattle.law_crashes.specs.RowScan.{IsRowScan}
use Rattle.law_crashes.specs.Records.{no_db, changes_in}
use Rattle.store_api.specs.Looks.{Looks}
use Rattle.stored_pages.specs.declared.layout.TheConstants.{PAGE}
use Rattle.file_zero.specs.Reading.{SaysHeader}

-- page 0 can be read, and is this
abbrev pub IsFirstPage : List ℕ → State → Type 0
IsFirstPage page s = IsPageIn s.pages.seen s.double.seen 0 (Some page)

abbrev pub HasNoFirstPage : State → Type 0
HasNoFirstPage s = IsPageIn s.pages.seen s.double.seen 0 None

-- a page 0 that is another thing than a header of version 0
abbrev pub IsOther : List ℕ → MountBad → Type 0
IsOther page NotInitialised = HasMagic page → ⊥
IsOther page (Version found) = HasMagic page × (version_of page ≡ found) × (found ≢ 0)
IsOther page why = ⊥

-- Page 0 is bad, and was written once: the sum that stands there, and the one of the bytes behind it.
pub record IsDamaged (place stored computed : ℕ) (pages : List ℕ) : Type 0 where
  pub at : place ≡ 0
  pub long : PAGE ≤ length pages
  pub says : stored ≡ u64_at 0 (place_of 0 pages)
  pub is : computed ≡ fnv_of (drop 8 (place_of 0 pages))

-- no page 0 can be read
abbrev pub IsMissing : List ℕ → MountBad → Type 0
IsMissing pages NotInitialised = length pages < PAGE
IsMissing pages (Damaged area.Pages place stored computed) = IsDamaged place stored computed pages
IsMissing pages why = ⊥

-- page 0 is why
abbrev pub IsHeaderBad : MountBad → State → Type 0
IsHeaderBad why s = (HasNoFirstPage s × IsMissing s.pages.seen why) ⊎ ((page : List ℕ) × IsFirstPage page s × IsOther page why)

abbrev pub HasFewRows : Database → Type 0
HasFewRows db = rows_in db ≤ most_rows

-- the database has so many rows, which are too many; want of memory is free
abbrev pub IsTooMany : Database → MountBad → Type 0
IsTooMany db NoMemory = Unit {0}
IsTooMany db (TooLarge rows) = (rows ≡ capped (rows_in db)) × (most_rows < rows)
IsTooMany db why = ⊥

-- so many rows are committed, which are too many
pub record HasTooMany (rows : ℕ) (s : State) : Type 0 where
  pub run : ℕ
  pub first : ℕ
  pub groups : List Group
  pub header : SaysHeader run first s
  pub scan : IsRowScan run first s.log.seen groups
  pub many : IsTooMany (changed no_db (changes_in groups)) (TooLarge rows)

-- The disk failed only where its count of faults has risen, and want of memory is free. All others are seen on the disk.
abbrev pub IsRefused : Past → Past → MountBad → Type 0
IsRefused old new Disk = Rose old.faults new.faults
IsRefused old new NoMemory = Unit {0}
IsRefused old new (TooLarge rows) = Now (HasTooMany rows) new
IsRefused old new why = Now (IsHeaderBad why) new

-- a call has failed, and said nothing of the files
abbrev pub IsFailure : MountBad → Type 0
IsFailure Disk = Unit {0}
IsFailure NoMemory = Unit {0}
IsFailure why = ⊥

-- files that are refused by what stands in them were left as they were
abbrev pub IsLeft : Past → Past → MountBad → Type 0
IsLeft old new Disk = Unit {0}
IsLeft old new NoMemory = Unit {0}
IsLeft old new why = Looks old new
