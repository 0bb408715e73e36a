-- What the areas of a disk in memory hold, from the record of its calls.
use Rattle.std.specs.Prelude.{◌≡◌, ℕ, Bool, true, false, Option, Some, None, List, [], ◌++◌, ◌∷◌, length, take, fold, if◌then◌else◌, nat_le}
use Rattle.store_api.specs.declared.disk.Area.{Area}
use Rattle.store_api.specs.declared.disk.Area.TheVariants.{Log, Double, Pages}
use Rattle.store_api.specs.Areas.{Contents, State, Image, write_of, overwritten}
use Rattle.store_api.specs.Past.{Past}
use Rattle.disk_mem.specs.declared.areas.Areas.{Areas}
use Rattle.disk_mem.specs.declared.call.Call.{Call}
use Rattle.disk_mem.specs.declared.call.Call.TheVariants.{Look, Write, Sync}

-- nothing is pending
abbrev pub resting_area : List ℕ → Contents
resting_area bytes = record { seen = bytes; synced = bytes; writes = [] }

abbrev pub resting : Areas → State
resting areas = record { log = resting_area areas.log.items; double = resting_area areas.double.items; pages = resting_area areas.pages.items }

-- an area after a write. One that failed may still be left by a crash
abbrev pub after_write : ℕ → List ℕ → Bool → Contents → Contents
after_write at bytes done c = record c { seen = if done then overwritten c.seen (write_of c.seen at bytes) else c.seen; writes = c.writes ++ write_of c.seen at bytes ∷ [] }

abbrev pub after_sync : Bool → Contents → Contents
after_sync true c = record { seen = c.seen; synced = c.seen; writes = [] }
after_sync false c = c

-- one area changed, and the others as they were
abbrev pub change : Area → (Contents → Contents) → State → State
change Log f s = record s { log = f s.log }
change Double f s = record s { double = f s.double }
change Pages f s = record s { pages = f s.pages }

abbrev pub after_call : State → Call → State
after_call s Look = s
after_call s (Write area at bytes done) = change area (after_write at bytes.items done) s
after_call s (Sync area done) = change area (after_sync done) s

abbrev pub state_after : Areas → List Call → State
state_after start calls = fold after_call (resting start) calls

-- the state after the first m calls, if so many are recorded
abbrev pub told_at : Areas → List Call → ℕ → Option State
told_at start calls m = if nat_le m (length calls) then Some (state_after start (take m calls)) else None

-- what is known where these calls are recorded
abbrev pub past_of : Areas → List Call → ℕ → ℕ → Past
past_of start calls moment faults = record { moment = moment; faults = faults; state_at = told_at start calls }

-- a read of these areas gives what the state says
pub record Shows (s : State) (areas : Areas) : Type 0 where
  pub log : areas.log.items ≡ s.log.seen
  pub double : areas.double.items ≡ s.double.seen
  pub pages : areas.pages.items ≡ s.pages.seen

-- an area after a call
abbrev pub area_after : Area → Contents → Call → Contents
area_after area c Look = c
area_after Log c (Write Log at bytes done) = after_write at bytes.items done c
area_after Double c (Write Double at bytes done) = after_write at bytes.items done c
area_after Pages c (Write Pages at bytes done) = after_write at bytes.items done c
area_after area c (Write other at bytes done) = c
area_after Log c (Sync Log done) = after_sync done c
area_after Double c (Sync Double done) = after_sync done c
area_after Pages c (Sync Pages done) = after_sync done c
area_after area c (Sync other done) = c

pub record HasAreas (image : Image) (areas : Areas) : Type 0 where
  pub log_is : areas.log.items ≡ image.log
  pub double_is : areas.double.items ≡ image.double
  pub pages_is : areas.pages.items ≡ image.pages

-- each area is empty
abbrev pub empty_image : Image
empty_image = record { log = []; double = []; pages = [] }

-- a disk that holds an image: nothing is pending and nothing has been called
pub record IsResting (image : Image) (past : Past) : Type 0 where
  pub moment : past.moment ≡ 0
  pub state : past.state_at 0 ≡ Some (record { log = resting_area image.log; double = resting_area image.double; pages = resting_area image.pages })

-- what the areas hold now is told
abbrev pub Tells : Past → Type 0
Tells past = (s : State) × (past.state_at past.moment ≡ Some s)
