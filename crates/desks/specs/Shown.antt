-- What statements see of a store.
use Rattle.row_search.specs.declared.sight.Sight.TheVariants as sights
use Rattle.shared_lists.specs.Tasks as tasks
use Rattle.std.specs.Prelude.{ℕ, List, Option, Some, None, map, slice_get}
use Rattle.inno_types.specs.declared.value.Schema.{Schema}
use Rattle.inno_db.specs.declared.change.Change.{Change}
use Rattle.world.specs.State.{WorldState, Session}
use Rattle.row_search.specs.declared.sight.Sight.{Sight}
use Rattle.shared_lists.specs.declared.answers.Reading.TheVariants.{View, Newest}
use Rattle.shared_lists.specs.{State.Lists, declared.answers.Reading.Reading, Tasks.Task}
use Rattle.desks.specs.declared.desk.Doing.TheVariants.{Nothing, Searching, Changing, Lagging, Undoing}
use Rattle.desks.specs.{declared.desk.Desk.Desk, declared.desk.Doing.Doing, Desks.Store, Desks.doing_in, Undoing.keys_if, Undoing.left_in}
use Rattle.desks.specs.{Searching.places_from}
use Rattle.row_changes.specs.{declared.row_change.RowChange.RowChange, declared.row_change.RowChange.TheVariants.Record}
use Rattle.row_changes.specs.{declared.row_change.RowChange.TheVariants.Keys, Edits.change_of, Rows.row_steps, Rows.table_of}

abbrev pub reading_of : Sight → Reading
reading_of (sights.View view own) = View
reading_of sights.Newest = Newest

-- the change that the history doesn't tell yet
abbrev pub change_in : RowChange → Option Change
change_in (Record change key after) = Some (change_of change.table change.edit)
change_in (Keys change) = None

abbrev pub shown : List Schema → ℕ → Doing → Task
shown schemas left Nothing = tasks.Idle
shown schemas left (Searching on) =
    tasks.Searching on.search.scan.table (record { which = on.search.scan.which; range = on.search.scan.range; unique = on.unique })
    (reading_of on.search.scan.sight)
shown schemas left (Changing change) = tasks.Changing (change_in change) (row_steps (keys_if (slice_get schemas (table_of change))) change)
shown schemas left Lagging = tasks.Lagging
shown schemas left Undoing = tasks.Undoing left

abbrev pub task_at : WorldState → Option Desk → Task
task_at state desk = shown state.schemas (left_in state desk) (doing_in desk)

abbrev pub task_shown : WorldState → Desk → Task
task_shown state desk = task_at state (Some desk)

abbrev pub lists_of : Store → Lists
lists_of store =
    record {
      state
          = record {
            names = store.world.names;
            past = store.world.past;
            writer = store.writer;
            tasks = map (task_shown store.world) store.desks;
            places = places_from 0 store.world store.desks;
          };
      settings = map (λ (session : Session). session.setting) store.world.sessions;
      rows = store.world.rows;
    }
