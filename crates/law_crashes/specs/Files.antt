-- What the files stand for.
use Rattle.std.specs.Prelude.{◌≡◌, ℕ, ◌≤◌, List, [], Some}
use Rattle.store_api.specs.Areas.{State, Image, IsImage, IsHonest, seen_image}
use Rattle.store_api.specs.Past.{Past, Ticks}
use Rattle.inno_db.specs.Database.{Database}
use Rattle.inno_model.specs.declared.event.Event.{Event}
use Rattle.inno_model.specs.Past.{changed, commits, db_after}
use Rattle.log_format.specs.declared.group.Group.{Group}
use Rattle.law_crashes.specs.Header.{SaysRun}
use Rattle.law_crashes.specs.RowScan.{IsRowScan}
use Rattle.law_crashes.specs.Records.{no_db, changes_in}
use Rattle.law_crashes.specs.Commits.{acked_by}

-- files whose log holds the groups, by the run and the first LSN that page 0 says, which make this database
pub record StandsFor (image : Image) (db : Database) : Type 0 where
  pub of_run : ℕ
  pub begins : ℕ
  pub groups : List Group
  pub says : SaysRun of_run begins image.pages image.double
  pub scan : IsRowScan of_run begins image.log groups
  pub makes : db ≡ changed no_db (changes_in groups)

-- no writes are pending
pub record IsAtRest (s : State) : Type 0 where
  pub log : s.log.writes ≡ []
  pub double : s.double.writes ≡ []
  pub pages : s.pages.writes ≡ []

-- The disk has told what it holds at each moment since root. At first nothing was pending, and it stood for this database.
pub record Files (root now : Past) (db : Database) : Type 0 where
  pub state : State
  pub ticks : Ticks now.moment
  pub tells : (m : ℕ) → root.moment ≤ m → m ≤ now.moment → (s : State) × (now.state_at m ≡ Some s)
  pub told : root.state_at root.moment ≡ Some state
  pub rests : IsAtRest state
  pub stands : StandsFor (seen_image state) db

-- Whatever a crash left at a moment since root stands for the same database as then.
pub record LeavesFiles (root now : Past) : Type 0 where
  pub later : root.moment ≤ now.moment
  pub kept : (m : ℕ) → Ticks now.moment → m ≤ root.moment → now.state_at m ≡ root.state_at m
  pub each : (db : Database) → Files root now db → (m : ℕ) (s : State) (image : Image) → root.moment ≤ m → m ≤ now.moment
      → now.state_at m ≡ Some s → IsImage s image → IsHonest s image → StandsFor image db

-- Files that hold the first n commits, with all that were acknowledged by this moment.
pub record HoldsSome (m : ℕ) (past : List Event) (image : Image) : Type 0 where
  pub n : ℕ
  pub some : n ≤ commits past
  pub all_acked : acked_by m past ≤ n
  pub stands : StandsFor image (db_after n past)
