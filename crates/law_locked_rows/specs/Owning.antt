-- Whose a place is, by the locks of records: it takes the place of "only who may write is at work on a row".
-- Every law here that keeps two sessions apart asks it; the lock table itself is described in `lock_table`.
use Rattle.std.specs.Prelude.{◌≡◌, ℕ, true, List, Some}
use Rattle.std.specs.List.{list_any}
use Rattle.inno_types.specs.declared.lock.Lock.{Lock}
use Rattle.inno_model.specs.Past.{own}
use Rattle.row_versions.specs.declared.place.Place.{Place}
use Rattle.law_stored_rows.specs.Edits.{clustered_index}
use Rattle.law_past_agreement.specs.Rows.{is_at}
use Rattle.world.specs.{State.WorldState, State.Session, State.Work, State.HasWork}
use Rattle.law_locks.specs.Guards.{has_alone}
use Rattle.desks.specs.{declared.desk.Desk.Desk, Desks.doing_at}
use Rattle.law_other_places.specs.Beside.{IsKeyOf}
use Rattle.desks.specs.Holding.{works_in}

-- the session's transaction has the place's record alone
pub record HasAlone (s : ℕ) (place : Place) (state : WorldState) (granted : List Lock) : Type 0 where
  pub session : Session
  pub work : Work
  pub has_work : HasWork s session work state
  pub key : List ℕ
  pub key_is : IsKeyOf place state.schemas key
  pub alone : has_alone work.txn (clustered_index place.table) key granted ≡ true

-- so it has each place that it has changed, and the one at which it is at work
pub record AreOwned (state : WorldState) (desks : List Desk) (granted : List Lock) : Type 0 where
  pub changed : (s : ℕ) (place : Place) → list_any (is_at state.schemas place) (own s state.past) ≡ true → HasAlone s place state granted
  pub working : (s : ℕ) (place : Place) → works_in state s (doing_at s desks) ≡ Some place → HasAlone s place state granted

-- each session keeps the locks of records that it has alone
abbrev pub KeepsAlone : ℕ → WorldState → List Lock → List Lock → Type 0
KeepsAlone s state old new =
    (session : Session) (work : Work) (index : ℕ) (key : List ℕ) → HasWork s session work state → has_alone work.txn index key old ≡ true
    → has_alone work.txn index key new ≡ true
