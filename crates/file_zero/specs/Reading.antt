-- What a mount reads of the files.
use Rattle.std.specs.Prelude.{◌≡◌, ℕ, ◌+◌, ◌*◌, ◌<◌, List, length, take, Some, All}
use Rattle.store_api.specs.Areas.{State}
use Rattle.store_api.specs.Past.{Past, Now}
use Rattle.log_format.specs.declared.block.TheConstants.{BLOCK}
use Rattle.inno_db.specs.Database.{Database}
use Rattle.inno_model.specs.Past.{changed}
use Rattle.log_format.specs.declared.group.Group.{Group}
use Rattle.log_format.specs.Scan.{EndsAt}
use Rattle.stored_pages.specs.Reading.{IsPageIn}
use Rattle.law_crashes.specs.Header.{IsHeader}
use Rattle.law_crashes.specs.Records.{no_db, changes_in}
use Rattle.law_crashes.specs.RowScan.{HasRowsOnly, IsRowScan}

-- the first bytes of an area, as many as a read asked for, or all
abbrev pub IsRead : ℕ → List ℕ → List ℕ → Type 0
IsRead len bytes area = take len bytes ≡ take (length bytes) area

-- page 0, from its place or its newest copy, says this run and this first LSN
pub record SaysHeader (run first : ℕ) (s : State) : Type 0 where
  pub page : List ℕ
  pub read : IsPageIn s.pages.seen s.double.seen 0 (Some page)
  pub header : IsHeader run first page

abbrev pub IsOfRun : ℕ → State → Type 0
IsOfRun run s = (first : ℕ) × SaysHeader run first s

-- The log has these groups of rows, whose good blocks end before this one, and so many bytes from there on.
pub record HasGroups (run first : ℕ) (area : List ℕ) (groups : List Group) (block rest : ℕ) : Type 0 where
  pub scan : IsRowScan run first area groups
  pub ends : EndsAt run block area groups
  pub long : length area ≡ BLOCK * block + rest

-- A mount has read the groups that make this database; the next LSN is this.
pub record IsFound (run block next : ℕ) (db : Database) (rest : ℕ) (now : Past) : Type 0 where
  pub first : ℕ
  pub groups : List Group
  pub of_rows : All HasRowsOnly groups
  pub reads : db ≡ changed no_db (changes_in groups)
  pub numbers : next ≡ first + length groups
  pub some : 0 < next
  pub header : Now (SaysHeader run first) now
  pub log : Now (λ s. HasGroups run first s.log.seen groups block rest) now

-- The files hold this database: page 0 is a header of version 0, and the log has groups of rows that make it.
pub record HoldsDatabase (db : Database) (s : State) : Type 0 where
  pub run : ℕ
  pub first : ℕ
  pub groups : List Group
  pub header : SaysHeader run first s
  pub scan : IsRowScan run first s.log.seen groups
  pub makes : db ≡ changed no_db (changes_in groups)
