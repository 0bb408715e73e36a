-- Each row that a session sees now has its key in each index of its table, however many others are changing rows.
-- Searches find rows by it: in the clustered index and in each secondary one.
use Rattle.std.proofs.Common.{◌≡◌, ◌≢◌, ◌∙◌, inl, inr, refl, sym, ap, subst, ℕ, ◌≤◌, ◌<◌, true, List, [], ◌∷◌, length, arith, Option, None, Some, slice_get}
use Rattle.std.proofs.Common.{is_some}
use Rattle.std.proofs.lemmas.Bool.{true≢false, cases_lt}
use Rattle.inno_types.specs.{declared.lock.Lock.Lock, declared.value.Schema.Schema, declared.value.Value.Value}
use Rattle.inno_db.specs.Indexes.{index_of}
use Rattle.entries.specs.Pairs.{Pair, AreRising, value_of}
use Rattle.sql_plan.specs.Visits.{index_key}
use Rattle.row_versions.specs.{declared.place.Place.Place, Chains.Chains, Chains.sees}
use Rattle.law_stored_rows.specs.Tables.{HasItsColumns, in_table}
use Rattle.law_past_agreement.specs.{Ids.id_of, Rows.is_place}
use Rattle.law_past_agreement.proofs.Ids.{ids_of}
use Rattle.world.specs.{State.WorldState, State.Session, State.Work, State.HasWork, State.Logged, Told.IsTold, Told.pairs_in, Told.pairs_of, Undoing.read_into}
use Rattle.law_world_agreement.specs.Agreement.{Agrees}
use Rattle.law_world_agreement.proofs.Ending.{work_of}
use Rattle.row_search.specs.{declared.scan.Scan.Scan, declared.sight.Sight.TheVariants.View, Sights.sees_by, Tables.ShowsRows, Tables.HaveKeys}
use Rattle.row_search.proofs.Keys.{IsHome, home}
use Rattle.law_found_rows.proofs.Showing.{IsUnseen, shows_lagging}
use Rattle.desks.specs.{declared.desk.Desk.Desk, Desks.Store, Desks.desk_at, Desks.doing_in, Desks.doing_at, Desks.is_quiet_doing}
use Rattle.desks.specs.Holding.{IsLast, lags_in, lags_at, said_beside}
use Rattle.law_other_places.proofs.Quiet.{quiet_lags}
use Rattle.law_other_places.proofs.Readers.{IsWrittenBy, written}
use Rattle.desks.specs.Holding.{RowHeldAt}
use Rattle.law_locked_rows.specs.Many.{IsHeldByAll}
use Rattle.law_other_places.proofs.Readers.{who_lags, lags_by}
use Rattle.law_locked_rows.specs.Now.{row_now, sight_now}
use Rattle.law_locked_rows.proofs.Now.{now_is, open_now, open_unseen}

has_id : {chains : Chains} {state : WorldState} {w : ℕ} {logged : Logged} {place : Place} → Agrees chains state → IsLast state w logged place
    → 0 < id_of state.past w
has_id {chains} {state} {w} agrees last = elim (cases_lt 0 (id_of state.past w)) [
  | inl some ↦ some
  | inr none ↦ let nothing : [] ≡ last.change ∷ last.before = sym ((ids_of state.past agrees.lists.ordered).no_id w (omega (arith, none)))
      ∙ last.own_is in absurd (cc)
]

module _ {store : Store} {granted : List Lock} (held : IsHeldByAll store granted) (told : IsTold store.world) {s : ℕ} {session : Session} {work : Work}
    (has : HasWork s session work store.world) (searching : is_quiet_doing (doing_at s store.desks) ≡ true) {schema : Schema} (scan : Scan)
    (there : slice_get store.world.schemas scan.table ≡ Some schema) (le : scan.which ≤ length schema.keys) where
  -- as if it read by the view that it would take now
  abbrev by_now : Scan
  by_now = record scan { sight = View (sight_now store.world.past) work.id }

  lagging_unseen : (w : ℕ) (place : Place) (desk : Option Desk) → desk_at w store.desks ≡ desk → lags_at place store.world store.desks w ≡ true
      → IsUnseen held.chains held.rows.said by_now.sight place
  lagging_unseen w place None is lags = absurd (true≢false (sym lags ∙ ap (λ desk. is_place place (lags_in store.world w (doing_in desk))) is))
  lagging_unseen w place (Some desk) is lags =
      let differs : s ≢ w = λ same. true≢false (sym lags
      ∙ quiet_lags store.world w store.desks place (subst (λ u. is_quiet_doing (doing_at u store.desks) ≡ true) same searching)) in
      let last = lags_by held.chains (said_beside held.chains held.rows.said store.world store.desks w) store.world w (read_into desk.undo) desk.room
      desk.doing place
      (subst (RowHeldAt held.chains (said_beside held.chains held.rows.said store.world store.desks w) store.world w) is (held.rows.each w))
      (sym (ap (λ desk. is_place place (lags_in store.world w (doing_in desk))) is) ∙ lags) in
      let by : IsWrittenBy held.chains place (id_of store.world.past w) = written held.agrees last.1 in
      record {
        version = by.version;
        others = by.others;
        newest_is = by.versions;
        tells = held.rows.lagging w place lags;
        unseen = ap (sees_by by_now.sight) by.writer_is
            ∙ ap (λ (id : ℕ). sees id (sight_now store.world.past) (id_of store.world.past w))
            (sym (work_of held.chains store.world s session work held.agrees has).id_is)
            ∙ open_unseen store.world.past held.agrees.lists.ordered s w (open_now held.agrees has) (open_now held.agrees last.1.has_work)
            (has_id held.agrees last.1) differs;
      }

  pub columns_now : HasItsColumns schema
  columns_now =
      let clustered = held.rows.coded.clustered.tables scan.table schema there in
      record {
        primary = clustered.primary;
        primary_is = clustered.primary_is;
        few = held.rows.coded.keyed.few scan.table schema there;
        keys = λ which key is. let entries = held.rows.coded.keyed.keys scan.table which schema key there is in (entries.indexed, entries.indexed_is);
      }

  pub shows_now : ShowsRows schema by_now store.world (in_table scan.table held.chains)
  shows_now = shows_lagging store.world held.chains held.rows.said told held.rows.coded schema by_now there columns_now le
      (λ place. elim (who_lags place store.world store.desks) [
        | inl some ↦ inr (lagging_unseen some.0 place (desk_at some.0 store.desks) refl some.1)
        | inr none ↦ inl (held.rows.settled place none)
      ])

  abbrev pub searched : List Pair
  searched = pairs_of store.world (index_of scan.table scan.which)

  searched_is : shows_now.searched ≡ searched
  searched_is = sym (ap pairs_in shows_now.searched_are)

  pub rising_now : AreRising searched
  rising_now = subst AreRising searched_is shows_now.rising

  pub keys_now : HaveKeys schema scan.which searched (row_now s scan.table store.world.past)
  keys_now value row is = subst (λ (pairs : List Pair). is_some (value_of (index_key schema scan.which row) pairs) ≡ true) searched_is
      (shows_now.keys value row (now_is held.agrees has scan.table value ∙ is))

  pub homes_now : (value : Value) (row : List Value) → row_now s scan.table store.world.past value ≡ Some row → IsHome schema value row
  homes_now value row is = home scan.table schema store.world.versions.kept_at _ (in_table scan.table held.chains)
      (sees work.id (sight_now store.world.past)) value row (held.rows.coded.clustered.tables scan.table schema there)
      (now_is held.agrees has scan.table value ∙ is)
