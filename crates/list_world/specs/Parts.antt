-- The world that statements see of a world in memory.
use Rattle.world.specs.State.{WorldState}
use Rattle.list_store.specs.Parts.{ListParts, store_of}
use Rattle.parts_world.specs.Parts as over
use Rattle.parts_world.specs.Parts.{Parts}

abbrev pub world_of : Parts ListParts → WorldState
world_of parts = over.world_of (store_of parts.store) parts
