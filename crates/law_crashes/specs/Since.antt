-- What a running engine keeps of the files since a moment, and why it can.
use Rattle.std.specs.Prelude.{◌≡◌, ℕ, ◌+◌, ◌*◌, ◌<◌, ◌≤◌, List, [], ◌∷◌, ◌++◌, length, Some, All}
use Rattle.store_api.specs.Areas.{Contents, State, Image, MayLeave, IsImage, IsHonestArea, IsHonest}
use Rattle.store_api.specs.Past.{Past, Ticks, Now}
use Rattle.log_format.specs.declared.block.TheConstants.{BLOCK}
use Rattle.inno_db.specs.Database.{Database}
use Rattle.inno_model.specs.declared.event.Event.{Event}
use Rattle.inno_model.specs.declared.event.Event.TheVariants.{Opened}
use Rattle.inno_model.specs.Past.{changed, opening}
use Rattle.log_format.specs.declared.group.Group.{Group}
use Rattle.log_format.specs.Scan.{EndsAt}
use Rattle.redo_log.specs.View.{LogView}
use Rattle.redo_log.specs.Logged.{Stands, GoesOnAt}
use Rattle.law_crashes.specs.Records.{no_db, changes_in}
use Rattle.law_crashes.specs.Commits.{logged, groups_of, logged_by, last_acked, acked_logged}
use Rattle.law_crashes.specs.Header.{SaysRun}
use Rattle.law_crashes.specs.RowScan.{HasRowsOnly, IsRowScan}
use Rattle.law_crashes.specs.Files.{Files, HoldsSome}

-- Where the files were at rest and stood for a database, the past begins with that one; and whatever a crash left at a
-- moment since holds the first so many commits, with all that were acknowledged by then.
pub record KeepsSince (root now : Past) (past : List Event) : Type 0 where
  pub later : root.moment ≤ now.moment
  pub kept : (m : ℕ) → Ticks now.moment → m ≤ root.moment → now.state_at m ≡ root.state_at m
  -- none was acknowledged at a moment to come
  pub timed : last_acked past ≤ now.moment
  pub opens : (db : Database) → Files root now db → opening past ≡ db
  pub each : (db : Database) → Files root now db → (m : ℕ) (s : State) (image : Image) → root.moment ≤ m → m ≤ now.moment
      → now.state_at m ≡ Some s → IsImage s image → IsHonest s image → HoldsSome m past image

-- the groups of a past behind those of the opening
abbrev pub all_groups : ℕ → List Group → List Event → List Group
all_groups first base past = base ++ groups_of (first + length base) past

-- Nothing is pending in the pages and their copies, which say this run and this first LSN.
pub record HasHeader (run first : ℕ) (double pages : Contents) : Type 0 where
  pub double_rests : double.writes ≡ []
  pub pages_rest : pages.writes ≡ []
  pub says : SaysRun run first pages.synced double.synced

-- The log and the disk stand for the opening and the commits since; `due s` is the LSN up to which the session's last
-- commit needs the log.
pub record IsDurable (root now : Past) (past : List Event) (log : LogView) (due : ℕ → ℕ) : Type 0 where
  pub first : ℕ
  pub base : List Group
  pub double : Contents
  pub pages : Contents
  pub of_rows : All HasRowsOnly base
  pub opens : opening past ≡ changed no_db (changes_in base)
  pub stands : Now (Stands first (all_groups first base past) log double pages) now
  -- of a disk that tells nothing there is nothing to know
  pub header : (db : Database) → Files root now db → HasHeader log.run first double pages
  pub next : log.next ≡ first + length base + logged past
  pub based : first + length base ≤ log.flushed + 1
  pub acked : first + length base + acked_logged past ≤ log.flushed + 1
  pub dues : (s : ℕ) → first + length base + logged_by s past ≤ due s + 1
  pub keeps : KeepsSince root now past

-- The log goes on behind these groups, and the other areas are these.
pub record IsBegun (run first block : ℕ) (base : List Group) (double pages : Contents) (s : State) : Type 0 where
  pub log : GoesOnAt run first block base s.log
  pub double_is : s.double ≡ double
  pub pages_is : s.pages ≡ pages

-- Files at rest, whose log goes on behind these groups.
pub record IsFirst (run first block : ℕ) (base : List Group) (s : State) : Type 0 where
  pub log : GoesOnAt run first block base s.log
  pub header : HasHeader run first s.double s.pages

-- nothing is pending in the log
abbrev pub LogRests : Past → Type 0
LogRests past = Now (λ s. s.log.writes ≡ []) past

-- A read of the log gives these groups, whose good blocks end before this one, and so many bytes from there on. The other
-- areas are these.
pub record IsScanned (run first block : ℕ) (base : List Group) (rest : ℕ) (double pages : Contents) (s : State) : Type 0 where
  pub scan : IsRowScan run first s.log.seen base
  pub ends : EndsAt run block s.log.seen base
  pub long : length s.log.seen ≡ BLOCK * block + rest
  pub double_is : s.double ≡ double
  pub pages_is : s.pages ≡ pages

-- whatever a crash leaves of the log scans to these groups
pub record StillScans (run first : ℕ) (base : List Group) (double pages : Contents) (s : State) : Type 0 where
  pub log : (image : List ℕ) → MayLeave s.log image → IsHonestArea BLOCK s.log image → IsRowScan run first image base
  pub double_is : s.double ≡ double
  pub pages_is : s.pages ≡ pages

-- A mount since root has read this database, and the log goes on at this block with this LSN.
pub record IsMounted (root now : Past) (run block next : ℕ) (db : Database) : Type 0 where
  pub first : ℕ
  pub base : List Group
  pub double : Contents
  pub pages : Contents
  pub of_rows : All HasRowsOnly base
  pub reads : db ≡ changed no_db (changes_in base)
  pub numbers : next ≡ first + length base
  pub some : 0 < next
  pub begun : Now (IsBegun run first block base double pages) now
  pub header : (at : Database) → Files root now at → HasHeader run first double pages
  pub keeps : KeepsSince root now (Opened db ∷ [])
