-- Which session has the transaction of a number. No two sessions have the same one.
use Rattle.std.specs.Prelude.{◌≡◌, ℕ, ◌≤◌, true, false, List, slice_get, Option, None, Some}
use Rattle.world.specs.State.{Session, txn_of}
use Rattle.world_parts.specs.Rooms.{is_of}

-- the session has the transaction
pub record Holds (txn s : ℕ) (sessions : List Session) : Type 0 where
  pub session : Session
  pub there : slice_get sessions s ≡ Some session
  pub is : is_of txn session.work ≡ true

abbrev pub NoneHolds : ℕ → List Session → Type 0
NoneHolds txn sessions = (s : ℕ) (session : Session) → slice_get sessions s ≡ Some session → is_of txn session.work ≡ false

abbrev pub txn_in : Option Session → Option ℕ
txn_in None = None
txn_in (Some session) = txn_of session.work

-- the number of the session's open transaction
abbrev pub txn_at : List Session → ℕ → Option ℕ
txn_at sessions s = txn_in (slice_get sessions s)

-- two sessions have two transactions
abbrev pub AreApart : List Session → Type 0
AreApart sessions = (s t txn : ℕ) → txn_at sessions s ≡ Some txn → txn_at sessions t ≡ Some txn → s ≡ t

-- they are among those that were begun
abbrev pub HaveBegun : List Session → ℕ → Type 0
HaveBegun sessions begun = (s txn : ℕ) → txn_at sessions s ≡ Some txn → txn ≤ begun
