-- The rows of a world: its tables with their pairs, and what is kept for roll pointers.
use Rattle.std.specs.Prelude.{ℕ, List, Option}
use Rattle.inno_types.specs.declared.value.Schema.{Schema}
use Rattle.entries.specs.Pairs.{Pair}
use Rattle.row_versions.specs.declared.kept.Kept.{Kept}
use Rattle.world.specs.{State.WorldState, Told.pairs_of}

-- the tables, the pairs of all indexes, and what is kept for roll pointers
pub record Rows : Type 0 where
  pub schemas : List Schema
  pub pairs : ℕ → List Pair
  pub kept : ℕ → Option Kept

abbrev pub rows_of : WorldState → Rows
rows_of state = record { schemas = state.schemas; pairs = pairs_of state; kept = state.versions.kept_at }
