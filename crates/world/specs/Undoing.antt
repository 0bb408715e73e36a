-- What the calls of undo logs answer, and what they change of a world.
use Rattle.std.specs.Prelude.{◌≡◌, ◌≢◌, ℕ, ◌<◌, ◌≤◌, vec_capacity, Bool, true, IsTrue, List, [], ◌∷◌, Option, None, Some, is_some}
use Rattle.store_api.specs.Causes.{Rose}
use Rattle.store_api.specs.declared.answers.Undo.{Undo}
use Rattle.store_api.specs.declared.moves.Move.{Move}
use Rattle.store_api.specs.declared.moves.Move.TheVariants.{Done, Step, Latch, Again, Full, Failed, Bad, NoMemory}
use Rattle.entries.specs.Index.{IsAsBefore, InPages}
use Rattle.inno_types.specs.Order.{IsBelow}
use Rattle.row_versions.specs.Versions.{Stays}
use Rattle.world.specs.declared.undo_room.UndoRoom.{UndoRoom}
use Rattle.world.specs.State.{WorldState, Session, Work, Logged, IsSession, HasWork, with_session, with_work}
use Rattle.world.specs.Stores.{Pages, StoreGoes}

-- Nothing has changed but what is known of pages.
pub record IsUnchanged (old new : WorldState) : Type 0 where
  pub indexes : (index : ℕ) → IsAsBefore (old.indexes index) (new.indexes index)
  pub versions : Stays old.versions new.versions
  pub rest : new ≡ record old { indexes = new.indexes; versions = new.versions; paged = new.paged }
  pub later : StoreGoes old.paged new.paged

-- The call has not ended, by a cause that only a world in pages has.
pub record IsPutOff (why : Pages → Pages → Type 0) (old new : WorldState) : Type 0 where
  pub all : IsUnchanged old new
  pub cause : InPages why old.paged new.paged

abbrev pub Delays : ℕ → WorldState → WorldState → Move → Type 0
Delays actor old new Step = IsPutOff (λ before now. IsBelow (now.to_go actor) (before.to_go actor)) old new
Delays actor old new (Latch by) = IsPutOff (λ before now. (by ≢ actor) × (before.stops by actor ≡ true)) old new
Delays actor old new Again = IsPutOff (λ before now. before.is_crowded ≡ true) old new
Delays actor old new Failed = IsPutOff (λ before now. Rose before.faults now.faults) old new
Delays actor old new (Bad page rule) = IsPutOff (λ before now. before.breaks page rule ≡ true) old new
Delays actor old new other = ⊥

-- the actor's log has room for a record of so many bytes, and the next record will have this pointer
pub record IsReady (actor bytes : ℕ) (old new : WorldState) : Type 0 where
  pub session : Session
  pub session_is : IsSession actor session old
  pub pointer : ℕ
  pub leads : pointer ≢ 0
  pub rest : new ≡ record (with_session actor (record session { undo_room = bytes; next_pointer = pointer }) old) { paged = new.paged }
  pub later : StoreGoes old.paged new.paged

abbrev pub MakesRoom : ℕ → ℕ → WorldState → WorldState → Move → Type 0
MakesRoom actor bytes old new Done = IsReady actor bytes old new
MakesRoom actor bytes old new NoMemory = IsUnchanged old new
MakesRoom actor bytes old new (Full need free) = IsPutOff (λ before now. (free ≡ before.free) × (free < need)) old new
MakesRoom actor bytes old new other = Delays actor old new other

-- the record that was read into this room
abbrev pub read_into : UndoRoom → Undo
read_into room = record { kind = room.kind; table = room.table; key = room.key.items; value = room.value.items }

-- the room holds the longest key and the longest value
pub record HoldsRecord (room : UndoRoom) : Type 0 where
  pub key : 67 ≤ vec_capacity room.key
  pub value : 1024 ≤ vec_capacity room.value

-- the newest record of a log
abbrev pub newest : List Logged → Option Undo
newest [] = None
newest (logged ∷ log) = Some logged.undo

abbrev pub older : List Logged → List Logged
older [] = []
older (logged ∷ log) = log

-- where there is a newest record, this one is it
abbrev pub IsRead : Option Undo → Undo → Bool → Type 0
IsRead found read there = (there ≡ is_some found) × (IsTrue there → found ≡ Some read)

abbrev pub ReadsLast : ℕ → ℕ → Undo → Bool → WorldState → WorldState → Move → Type 0
ReadsLast actor slot read there old new Done =
    ((session : Session) (work : Work) → HasWork slot session work old → IsRead (newest work.log) read there) × IsUnchanged old new
ReadsLast actor slot read there old new other = Delays actor old new other

-- The newest record of the log is gone. What stands behind other pointers stands there still.
pub record IsCutBack (slot : ℕ) (old new : WorldState) : Type 0 where
  pub session : Session
  pub work : Work
  pub has_work : HasWork slot session work old
  pub gone : Logged
  pub log : List Logged
  pub log_is : work.log ≡ gone ∷ log
  pub told : IsTrue new.versions.told → IsTrue old.versions.told
  pub kept : (pointer : ℕ) → pointer ≢ gone.pointer → IsTrue new.versions.told → new.versions.kept_at pointer ≡ old.versions.kept_at pointer
  -- a record of kind 1 keeps no version
  pub behind_new : gone.undo.kind ≡ 1 → IsTrue new.versions.told → new.versions.kept_at gone.pointer ≡ old.versions.kept_at gone.pointer
  pub next : ℕ
  pub rest : new ≡ record (with_work slot (record session { undo_room = 0; next_pointer = next }) (record work { log = log }) old)
      { versions = new.versions; paged = new.paged }
  pub later : StoreGoes old.paged new.paged

abbrev pub CutsBack : ℕ → ℕ → WorldState → WorldState → Move → Type 0
CutsBack actor slot old new Done = IsCutBack slot old new
CutsBack actor slot old new other = Delays actor old new other
