-- What contracts see of a store: the tables with their indexes, older versions, and the rooms of undo records.
use Rattle.std.specs.Prelude.{ℕ, List, Option}
use Rattle.inno_types.specs.declared.value.Schema.{Schema}
use Rattle.entries.specs.Index.{Index}
use Rattle.row_versions.specs.Versions.{Versions}
use Rattle.world.specs.Stores.{Pages}
use Rattle.index_store.specs.declared.room.Room.{Room}

pub record StoreState : Type 0 where
  -- the tables by number
  pub schemas : List Schema
  -- the indexes by number: that of a table times 8, and 1 to 4 more for its keys in order
  pub indexes : ℕ → Index
  -- older versions by roll pointer
  pub versions : Versions
  -- what the next undo record of each session has, by its number
  pub rooms : ℕ → Room
  -- A store in memory has no pages.
  pub paged : Option Pages
