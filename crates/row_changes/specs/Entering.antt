-- What entering a change makes of sessions, ids and the history.
use Rattle.std.specs.Prelude.{◌≡◌, ◌≢◌, ℕ, ◌+◌, ◌∷◌, false, length, slice_get, Some}
use Rattle.inno_db.specs.declared.change.Change.{Change}
use Rattle.inno_model.specs.declared.event.Event.TheVariants.{Changed}
use Rattle.world.specs.State.{WorldState, Session, Work, IsSession}
use Rattle.row_changes.specs.Records.{id_for, txns_with_id}

-- the session's transaction has its id, a new one where it had none
pub record GivesId (s : ℕ) (session : Session) (work : Work) (old new : WorldState) : Type 0 where
  pub now : IsSession s (record session { work = Some (record work { id = id_for work.id old.txns.next }) }) new
  pub others : (t : ℕ) → t ≢ s → slice_get new.sessions t ≡ slice_get old.sessions t
  pub count : length new.sessions ≡ length old.sessions
  pub rest : new ≡ record old { sessions = new.sessions; txns = txns_with_id work old.txns }

-- the same, and it has a change more, which the history tells
pub record Enters (s : ℕ) (change : Change) (rows : ℕ) (session : Session) (work : Work) (old new : WorldState) : Type 0 where
  pub now : IsSession s (record session { can_change = false; work = Some (record work { id = id_for work.id old.txns.next; own = work.own + 1 }) }) new
  pub others : (t : ℕ) → t ≢ s → slice_get new.sessions t ≡ slice_get old.sessions t
  pub count : length new.sessions ≡ length old.sessions
  pub rest : new ≡ record old { past = Changed s change ∷ old.past; rows = old.rows + rows; sessions = new.sessions; txns = txns_with_id work old.txns }
