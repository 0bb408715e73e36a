-- What keys still say of a place while a change of it is under way.
use Rattle.row_versions.specs.{declared.place.Place.Place, Chains.Chains}
use Rattle.law_stored_rows.specs.Tables.{Said, SayTheSameBut, TellsOfOlder}
use Rattle.row_changes.specs.Told.{AreRowsAs}
use Rattle.world.specs.State.{WorldState}

-- The indexes are these rows, but keys lag at the place, where they tell of its older versions. Of all others they say what is said
-- beside it.
pub record LagsAt (place : Place) (chains : Chains) (beside : Said) (state : WorldState) : Type 0 where
  pub said : Said
  pub coded : AreRowsAs chains said state
  pub lag : SayTheSameBut place beside said
  pub older : TellsOfOlder place chains said
