-- Steps that change no row, and calls of the lock table alone, keep what is held of all sessions.
-- Items, commits, views and waits are such steps, and so is what a store does that still has one writer.
use Rattle.std.proofs.Common.{◌≡◌, ◌≢◌, ◌∙◌, sym, ap, ℕ, true, List, [], None, Some}
use Rattle.std.proofs.lemmas.Bool.{true≢false}
use Rattle.std.specs.List.{list_any}
use Rattle.inno_types.specs.declared.lock.Lock.{Lock}
use Rattle.inno_model.specs.Past.{own}
use Rattle.row_versions.specs.declared.place.Place.{Place}
use Rattle.law_past_agreement.specs.Rows.{is_at}
use Rattle.law_stored_rows.specs.Edits.{clustered_index}
use Rattle.world.specs.State.{WorldState}
use Rattle.lock_table.specs.Queue.{AreApart}
use Rattle.desks.specs.declared.desk.Desk.{Desk}
use Rattle.desks.specs.Desks.{Store, desk_at, doing_at, is_quiet_doing}
use Rattle.desks.specs.Holding.{IsHeld, SearchHeld}
use Rattle.law_other_places.specs.Beside.{LeavesSession}
use Rattle.law_other_places.proofs.Quiet.{quiet_works}
use Rattle.law_locked_rows.specs.{Owning.HasAlone, Owning.AreOwned, Owning.KeepsAlone, Many.IsHeldByAll}
use Rattle.law_locked_rows.proofs.Owning.{owned_after}

-- A session that changes no row owns what it owned, or where its transaction has ended, nothing.
pub quiet_owned : (t : ℕ) {old new : WorldState} {desks now : List Desk} {granted granted_now : List Lock} → AreOwned old desks granted
    → new.schemas ≡ old.schemas → ((s : ℕ) → s ≢ t → LeavesSession s old new) → ((s : ℕ) → s ≢ t → desk_at s now ≡ desk_at s desks)
    → ((s : ℕ) → s ≢ t → KeepsAlone s old granted granted_now)
    → ((place : Place) → list_any (is_at new.schemas place) (own t new.past) ≡ true → HasAlone t place new granted_now)
    → is_quiet_doing (doing_at t now) ≡ true → AreOwned new now granted_now
quiet_owned t {old} {new} {desks} {now} owned schemas sessions same keeps changed quiet =
    owned_after t owned schemas sessions same keeps changed
    (λ place works. absurd (let none = quiet_works new t (doing_at t now) quiet in let e : None ≡ Some place = sym none ∙ works in cc))

pub nothing_owned : (t : ℕ) (new : WorldState) (granted : List Lock) → own t new.past ≡ [] → (place : Place)
    → list_any (is_at new.schemas place) (own t new.past) ≡ true → HasAlone t place new granted
nothing_owned t new granted none place has = absurd (true≢false (sym has ∙ ap (list_any (is_at new.schemas place)) none))

-- ---- a call of the lock table alone

pub locks_kept : {store : Store} {granted now : List Lock} → IsHeldByAll store granted → AreApart now → ((s : ℕ) → KeepsAlone s store.world granted now)
    → IsHeldByAll store now
locks_kept {store} {granted} {now} held apart keeps = record {
  chains = held.chains;
  agrees = held.agrees;
  fits = held.fits;
  rows = held.rows;
  owned = record {
    changed = λ s place has. still s place (held.owned.changed s place has);
    working = λ s place is. still s place (held.owned.working s place is);
  };
  apart = apart;
  searches = held.searches;
  logs = held.logs;
  has_room = held.has_room;
  started = held.started;
  rooms = held.rooms;
  count = held.count;
  few = held.few;
  cut = held.cut;
  short = held.short;
}
  where
    still : (s : ℕ) (place : Place) → HasAlone s place store.world granted → HasAlone s place store.world now
    still s place is = record {
      session = is.session;
      work = is.work;
      has_work = is.has_work;
      key = is.key;
      key_is = is.key_is;
      alone = keeps s is.session is.work (clustered_index place.table) is.key is.has_work is.alone;
    }

-- ---- a store of the plain lock, where who changes rows has also locked their records

pub held_by_all : {store : Store} {granted : List Lock} (held : IsHeld store) → AreOwned store.world store.desks granted → AreApart granted
    → ((s : ℕ) → SearchHeld held.chains (record store { writer = None }) s (doing_at s store.desks)) → IsHeldByAll store granted
held_by_all {store} held owned apart searches = record {
  chains = held.chains;
  agrees = held.agrees;
  fits = held.fits;
  rows = held.rows;
  owned = owned;
  apart = apart;
  searches = searches;
  logs = held.logs;
  has_room = held.has_room;
  started = held.started;
  rooms = held.rooms;
  count = held.count;
  few = held.few;
  cut = held.cut;
  short = held.short;
}
