-- A world in memory tells everything, and has no pages: so nothing is ever put off, and pages are never lacking.
use Rattle.std.specs.Prelude.{◌≡◌, ℕ, None}
use Rattle.world.specs.AtHand.{IsAtHand}
use Rattle.list_store.specs.Parts.{ListParts, store_of}
use Rattle.list_store.specs.Memory as lists
use Rattle.parts_world.specs.Parts.{Parts}
use Rattle.parts_world.specs.AtHand as over
use Rattle.list_world.specs.Parts.{world_of}

pub at_hand : (parts : Parts ListParts) → IsAtHand (world_of parts)
at_hand parts = over.at_hand (store_of parts.store) parts (lists.at_hand parts.store)

pub no_page_of_index : (parts : Parts ListParts) (index : ℕ) → ((world_of parts).indexes index).paged ≡ None
no_page_of_index parts index = lists.no_page_of_index parts.store index
