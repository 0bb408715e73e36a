-- What a session's step leaves of its own room for entries and undo records, and of all else.
use Rattle.std.specs.Prelude.{◌≡◌, ◌≢◌, ℕ, length, slice_get}
use Rattle.entries.specs.Index.{AreKept}
use Rattle.row_versions.specs.Versions.{Stays}
use Rattle.world.specs.{State.WorldState, State.Session, State.IsSession, Stores.StoreGoes}

-- the session has other rooms for entries and undo records, and all else as it was
pub record IsReadied (before after : Session) : Type 0 where
  pub setting : after.setting ≡ before.setting
  pub work : after.work ≡ before.work
  pub can_reply : after.can_reply ≡ before.can_reply
  pub can_ack : after.can_ack ≡ before.can_ack

-- No pair has changed, no actor's place, and of sessions only the rooms of this one.
pub record StepsAside (s : ℕ) (old new : WorldState) : Type 0 where
  pub pairs : (index : ℕ) → AreKept (old.indexes index).pairs (new.indexes index).pairs
  pub places : (index : ℕ) → (new.indexes index).place ≡ (old.indexes index).place
  pub versions : Stays old.versions new.versions
  pub before : Session
  pub after : Session
  pub was : IsSession s before old
  pub is : IsSession s after new
  pub readied : IsReadied before after
  pub others : (t : ℕ) → t ≢ s → slice_get new.sessions t ≡ slice_get old.sessions t
  pub count : length new.sessions ≡ length old.sessions
  pub rest : new ≡ record old { indexes = new.indexes; versions = new.versions; paged = new.paged; sessions = new.sessions }
  pub later : StoreGoes old.paged new.paged
