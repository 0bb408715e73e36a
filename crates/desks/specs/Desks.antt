-- What each session has under way, by number.
use Rattle.std.specs.Prelude.{◌≡◌, ℕ, zero, suc, ◌+◌, Bool, true, false, Option, Some, None, List, [], ◌∷◌, slice_get}
use Rattle.desks.specs.declared.desk.Doing.TheVariants.{Nothing, Searching, Undoing}
use Rattle.world.specs.{declared.undo_room.UndoRoom.UndoRoom, Undoing.HoldsRecord, State.WorldState}
use Rattle.undo_apply.specs.{declared.work_room.WorkRoom.WorkRoom, declared.work_room.Stage.TheVariants.Find, Rooms.IsWhole}
use Rattle.desks.specs.{declared.desk.Desk.Desk, declared.desk.Doing.Doing}

-- the session's desk, where it has joined
abbrev pub desk_at : ℕ → List Desk → Option Desk
desk_at s desks = slice_get desks s

abbrev pub doing_in : Option Desk → Doing
doing_in None = Nothing
doing_in (Some desk) = desk.doing

abbrev pub doing_at : ℕ → List Desk → Doing
doing_at s desks = doing_in (desk_at s desks)

abbrev pub started_in : Option Desk → ℕ
started_in None = 0
started_in (Some desk) = desk.started

-- how many items the session has started
abbrev pub started_at : ℕ → List Desk → ℕ
started_at s desks = started_in (desk_at s desks)

-- its desk is another now
abbrev pub with_desk : ℕ → (Desk → Desk) → List Desk → List Desk
with_desk s change [] = []
with_desk zero change (desk ∷ desks) = change desk ∷ desks
with_desk (suc s) change (desk ∷ desks) = desk ∷ with_desk s change desks

abbrev pub with_doing : ℕ → Doing → List Desk → List Desk
with_doing s doing desks = with_desk s (λ desk. record desk { doing = doing }) desks

abbrev pub with_start : ℕ → List Desk → List Desk
with_start s desks = with_desk s (λ desk. record desk { started = desk.started + 1 }) desks

-- it takes back the change whose undo record was read
abbrev pub with_read : ℕ → UndoRoom → List Desk → List Desk
with_read s read desks = with_desk s (λ desk. record desk { undo = read; doing = Undoing }) desks

-- so far
abbrev pub with_room : ℕ → WorkRoom → List Desk → List Desk
with_room s room desks = with_desk s (λ desk. record desk { room = room }) desks

-- no row is being changed
abbrev pub is_quiet_doing : Doing → Bool
is_quiet_doing Nothing = true
is_quiet_doing (Searching on) = true
is_quiet_doing other = false

-- no change of a row is under way: only who may write has one
abbrev pub is_quiet : Option ℕ → List Desk → Bool
is_quiet None desks = true
is_quiet (Some writer) desks = is_quiet_doing (doing_at writer desks)

-- ---- its rooms

abbrev pub is_undoing : Doing → Bool
is_undoing Undoing = true
is_undoing other = false

-- They hold the longest undo record and what it takes to take it back, and none is under way but where the session says so.
pub record HasRooms (desk : Desk) : Type 0 where
  pub record_room : HoldsRecord desk.undo
  pub whole : IsWhole desk.room
  pub anew : is_undoing desk.doing ≡ false → desk.room.stage ≡ Find

-- a session that has started nothing
pub record IsNewDesk (desk : Desk) : Type 0 where
  pub started_is : desk.started ≡ 0
  pub doing_is : desk.doing ≡ Nothing
  pub rooms : HasRooms desk

-- ---- What the sessions of one engine share, with what each of them has under way.

pub record Store : Type 0 where
  pub world : WorldState
  -- the session that may write
  pub writer : Option ℕ
  -- by the numbers of the sessions
  pub desks : List Desk
  -- how many older versions were dropped by changes that were taken back
  pub cuts : ℕ
