-- What contracts see of the room that is kept for a session.
use Rattle.std.specs.Prelude.{ℕ, ◌==◌, ◌<◌, ◌≤◌, Bool, false, List, [], ◌∷◌, length, reverse, Option, None, Some, option_map, vec_len, vec_capacity}
use Rattle.world_parts.specs.declared.open_work.OpenWork.{OpenWork}
use Rattle.std.specs.List.{AllByRecursion}
use Rattle.store_api.specs.declared.answers.Undo.{Undo}
use Rattle.world.specs.State.{Work, Session, Seen, Logged}

-- its log is seen the newest first
abbrev pub work_of : OpenWork → Work
work_of work =
    record { txn = work.txn; level = work.level; id = work.id; own = work.own; view = work.view; log = reverse work.log.items; can_end = work.can_end }

-- the log takes one record more without memory
abbrev pub HasLogRoom : Option OpenWork → Type 0
HasLogRoom None = Unit {0}
HasLogRoom (Some work) = vec_len work.log < vec_capacity work.log

-- the key and the value of an undo record are no longer than the longest
pub record IsShortRecord (undo : Undo) : Type 0 where
  pub key : length undo.key ≤ 67
  pub value : length undo.value ≤ 1024

abbrev pub AreShortRecords : List Logged → Type 0
AreShortRecords log = AllByRecursion (λ logged. IsShortRecord logged.undo) log

abbrev pub IsLogShort : Option OpenWork → Type 0
IsLogShort None = Unit {0}
IsLogShort (Some work) = AreShortRecords work.log.items

-- the session's open transaction, if it has one, is changed so
abbrev pub working : (Work → Work) → Session → Session
working change session = record session { work = option_map change session.work }

-- the session's open transaction has this number
abbrev pub is_of : ℕ → Option Work → Bool
is_of txn None = false
is_of txn (Some work) = work.txn == txn

abbrev pub log_of : Option Work → List Logged
log_of None = []
log_of (Some work) = work.log

abbrev pub view_of : Option Work → Option Seen
view_of None = None
view_of (Some work) = work.view

-- the roll pointer and the kind of the newest record
abbrev pub newest_pointer : List Logged → Option (ℕ × ℕ)
newest_pointer [] = None
newest_pointer (logged ∷ log) = Some (logged.pointer, logged.undo.kind)
