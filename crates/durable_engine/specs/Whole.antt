-- A disk to which every commit was brought.
use Rattle.std.specs.Prelude.{◌≡◌, List, Some}
use Rattle.store_api.specs.Areas.{State, Image, IsImage, IsHonest}
use Rattle.store_api.specs.Past.{Past}
use Rattle.inno_db.specs.Database.{Database}
use Rattle.inno_model.specs.declared.event.Event.{Event}
use Rattle.inno_model.specs.Past.{commits, db_after}
use Rattle.law_crashes.specs.Files.{Files, StandsFor}

-- whatever a crash leaves of the files now stands for the database after every commit of the past
pub record HoldsAll (root now : Past) (past : List Event) : Type 0 where
  pub each : (db : Database) → Files root now db → (s : State) (image : Image) → now.state_at now.moment ≡ Some s → IsImage s image → IsHonest s image
      → StandsFor image (db_after (commits past) past)
