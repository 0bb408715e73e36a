-- What an engine over pages keeps of its files since a moment.
-- The law of `steps` gives it for one step. An engine that keeps its rows in pages is to have it of each.
use Rattle.std.specs.Prelude.{◌≡◌, ◌≢◌, ℕ, ◌<◌, ◌≤◌, false, Option, Some, None, List}
use Rattle.store_api.specs.Areas.{State, Image, IsImage, IsHonest, seen_image}
use Rattle.store_api.specs.Past.{Past, Ticks}
use Rattle.stored_pages.specs.declared.layout.TheConstants.{MAGIC, RUN, FIRST_LSN}
use Rattle.store_api.specs.declared.limits.TheConstants.{MOST_PAGES}
use Rattle.inno_db.specs.Database.{Database}
use Rattle.inno_model.specs.declared.event.Event.{Event}
use Rattle.inno_model.specs.Past.{opening, commits, db_after}
use Rattle.log_format.specs.declared.group.Group.{Group}
use Rattle.log_format.specs.Scan.{IsScan}
use Rattle.stored_pages.specs.Words.{u64_at}
use Rattle.stored_pages.specs.Reading.{IsPageIn}
use Rattle.law_logged_pages.specs.Applied.{page_after}
use Rattle.law_logged_pages.specs.Stages.{or_zeros}
use Rattle.law_logged_pages.specs.Readings.{ReadsAlong}
use Rattle.law_crashes.specs.Commits.{acked_by, last_acked}
use Rattle.law_crashes.specs.Files.{IsAtRest}
use Rattle.law_read_pages.specs.Undo.{ReadAsDb}
use Rattle.law_read_pages.specs.Stores.{Store, HoldsStore}

-- page 0, however it is read, says this magic, run and first LSN
pub record SaysRun (magic run first : ℕ) (image : Image) : Type 0 where
  pub there : IsPageIn image.pages image.double 0 None → ⊥
  pub each : (bytes : List ℕ) → IsPageIn image.pages image.double 0 (Some bytes)
      → (u64_at MAGIC bytes ≡ magic) × (u64_at RUN bytes ≡ run) × (u64_at FIRST_LSN bytes ≡ first)

-- files whose pages, brought on by the groups of the log, read as this database
pub record StandsFor (image : Image) (db : Database) : Type 0 where
  pub magic : ℕ
  pub of_run : ℕ
  pub begins : ℕ
  pub groups : List Group
  pub says : SaysRun magic of_run begins image
  pub scan : IsScan of_run begins image.log groups
  pub reads : (found : ℕ → Option (List ℕ)) → ((page : ℕ) → page < MOST_PAGES → IsPageIn image.pages image.double page (found page))
      → ReadAsDb (λ page. page_after page groups (or_zeros (found page))) db

pub record Files (root now : Past) (db : Database) : Type 0 where
  pub state : State
  pub ticks : Ticks now.moment
  pub told : root.state_at root.moment ≡ Some state
  pub rests : IsAtRest state
  pub stands : StandsFor (seen_image state) db

pub record HoldsSome (m : ℕ) (past : List Event) (image : Image) : Type 0 where
  pub n : ℕ
  pub some : n ≤ commits past
  pub all_acked : acked_by m past ≤ n
  pub stands : StandsFor image (db_after n past)

pub record KeepsSince (root now : Past) (past : List Event) : Type 0 where
  pub later : root.moment ≤ now.moment
  pub kept : (m : ℕ) → Ticks now.moment → m ≤ root.moment → now.state_at m ≡ root.state_at m
  pub timed : last_acked past ≤ now.moment
  pub opens : (db : Database) → Files root now db → opening past ≡ db
  pub each : (db : Database) → Files root now db → (m : ℕ) (s : State) (image : Image) → root.moment ≤ m → m ≤ now.moment
      → now.state_at m ≡ Some s → IsImage s image → IsHonest s image → HoldsSome m past image

-- The pages along the groups of the log read as the database after some of the commits.
pub record IsDurable (root : Past) (past : List Event) (s : Store) : Type 0 where
  pub first : ℕ
  pub groups : List Group
  pub base : ℕ → List ℕ
  pub acked : ℕ
  pub all_acked : (m : ℕ) → acked_by m past ≤ acked
  pub magic : u64_at MAGIC (base 0) ≢ 0
  pub run_is : s.failed ≡ false → u64_at RUN (base 0) ≡ s.log.run
  pub first_is : u64_at FIRST_LSN (base 0) ≡ first
  pub holds : s.failed ≡ false → HoldsStore first groups base s
  pub along : s.failed ≡ false → ReadsAlong ReadAsDb (λ n. db_after n past) (commits past) acked first s.log.flushed groups base
  pub keeps : KeepsSince root s.disk past

-- The history has gone on by entries that open nothing and acknowledge nothing.
pub record GoesOn (past later : List Event) : Type 0 where
  pub rise : commits past ≤ commits later
  pub same : (n : ℕ) → n ≤ commits past → db_after n later ≡ db_after n past
  pub opening_is : opening later ≡ opening past
  pub acks : (m : ℕ) → acked_by m later ≡ acked_by m past
  pub last : last_acked later ≡ last_acked past
