-- What an appended group makes of a log.
use Rattle.std.specs.Prelude.{◌≡◌, ℕ, ◌+◌, ◌≤◌, List, [], ◌∷◌, ◌++◌}
use Rattle.store_api.specs.Areas.{Contents}
use Rattle.log_format.specs.declared.group.Group.{Group}
use Rattle.log_format.specs.declared.group.Record.{Record}
use Rattle.redo_log.specs.View.{LogView, room_of}
use Rattle.redo_log.specs.Logged.{IsLogged}

-- The records are the log's newest group.
pub record IsAppended (records : List Record) (old new : LogView) : Type 0 where
  pub run : new.run ≡ old.run
  pub flushed : new.flushed ≡ old.flushed
  pub next : new.next ≡ old.next + 1
  pub spare : old.spare ≤ new.spare + room_of records
  pub logged : (first : ℕ) (groups : List Group) (c : Contents) → IsLogged first groups old c
      → IsLogged first (groups ++ record { lsn = old.next; records = records } ∷ []) new c
