-- Files that are being made.
use Rattle.std.specs.Prelude.{◌≡◌, ◌⊎◌, ℕ, ◌+◌, ◌<◌, [], length, None}
use Rattle.store_api.specs.declared.answers.MountBad.{MountBad}
use Rattle.store_api.specs.declared.answers.MountBad.TheVariants.{Disk, NotEmpty}
use Rattle.store_api.specs.Areas.{Contents, State, Image, IsImage, IsHonest, seen_image}
use Rattle.store_api.specs.Causes.{Rose}
use Rattle.store_api.specs.Past.{Past, Now}
use Rattle.sql_history.specs.Counts.{capped}
use Rattle.stored_pages.specs.Reading.{IsGoodPage, IsPageIn}
use Rattle.law_crashes.specs.Header.{IsHeader}
use Rattle.law_crashes.specs.Records.{no_db}
use Rattle.law_crashes.specs.Files.{IsAtRest, StandsFor}
use Rattle.store_api.specs.Looks.{Looks}

abbrev pub IsEmptyArea : Contents → Type 0
IsEmptyArea c = (c.synced ≡ []) × (c.writes ≡ [])

pub record AreEmpty (s : State) : Type 0 where
  pub log : IsEmptyArea s.log
  pub double : IsEmptyArea s.double
  pub pages : IsEmptyArea s.pages

-- the files stand for the database without tables, and nothing is pending
abbrev pub AreNew : State → Type 0
AreNew s = IsAtRest s × StandsFor (seen_image s) no_db

-- page 0 alone, of which the log's run is 1 and begins with LSN 1
pub record IsPageAlone (s : State) : Type 0 where
  pub log : s.log.seen ≡ []
  pub double : s.double.seen ≡ []
  pub page : IsGoodPage 0 s.pages.seen
  pub header : IsHeader 1 1 s.pages.seen

-- a crash leaves no page 0, or files that stand for the database without tables
abbrev pub AreBeingMade : State → Type 0
AreBeingMade s = (image : Image) → IsImage s image → IsHonest s image → IsPageIn image.pages image.double 0 None ⊎ StandsFor image no_db

-- so many bytes in all three files
abbrev pub HasBytes : ℕ → State → Type 0
HasBytes bytes s = bytes ≡ capped (length s.log.seen + length s.double.seen + length s.pages.seen)

-- The disk failed only where its count of faults has risen. Files that were not empty were left as they were.
abbrev pub IsNotMade : Past → Past → MountBad → Type 0
IsNotMade old new Disk = Rose old.faults new.faults
IsNotMade old new (NotEmpty bytes) = (0 < bytes) × Now (HasBytes bytes) new × Looks old new
IsNotMade old new why = ⊥
