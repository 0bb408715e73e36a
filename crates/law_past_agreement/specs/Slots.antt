-- What is kept of each session.
use Rattle.std.specs.Prelude.{ℕ, ◌==◌, if◌then◌else◌, Option, Some, None, List}
use Rattle.inno_types.specs.declared.lock.Level.{Level}
use Rattle.read_view.specs.Sight.{Sight}
use Rattle.row_versions.specs.declared.place.Place.{Place}

-- an open transaction: its number, its level, its id or 0, its view, and the places of its changes, the newest first
pub record Work : Type 0 where
  pub txn : ℕ
  pub level : Level
  pub id : ℕ
  pub view : Option Sight
  pub places : List (Option Place)

-- a session: how many items it started, and its open transaction
pub record Slot : Type 0 where
  pub started : ℕ
  pub work : Option Work

-- a session that has done nothing
abbrev pub fresh : Slot
fresh = record { started = 0; work = None }

-- the id that a transaction writes with
abbrev pub id_for : ℕ → ℕ → ℕ
id_for own next = if own == 0 then next else own

-- the session that may write, where it is another one
abbrev pub writer_without : Option ℕ → ℕ → Option ℕ
writer_without None s = None
writer_without (Some w) s = if w == s then None else Some w
