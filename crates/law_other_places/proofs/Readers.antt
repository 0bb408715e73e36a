-- A reader finds what its sight shows, however many others are changing rows, each at its place: where keys lag behind the newest change of
-- a session, others don't see that change. No lock is asked for: such a reader takes none.
use Rattle.std.proofs.Common.{◌≡◌, ◌≢◌, ◌∙◌, ◌⊎◌, inl, inr, refl, sym, ap, subst, ℕ, zero, suc, ◌<◌, ◌≤◌, Bool, true, false, cond, List, [], ◌∷◌, ◌++◌}
use Rattle.std.proofs.Common.{Option, None, Some, slice_get, arith, length}
use Rattle.std.proofs.{lemmas.Bool.cases_Bool, lemmas.Bool.cases_eq, lemmas.Bool.cases_lt, lemmas.Bool.false≢true, lemmas.Bool.true≢false}
use Rattle.std.proofs.{lemmas.Bool.Decides.nat_tests, lemmas.Bool.Decides.eqb_tells}
use Rattle.std.specs.Prelude.{is_some, option_map, ◌||◌}
use Rattle.std.specs.List.{list_any}
use Rattle.inno_types.specs.declared.value.Schema.{Schema}
use Rattle.inno_db.specs.declared.change.Change.{Change}
use Rattle.inno_model.specs.Past.{own, IsOpen}
use Rattle.store_api.specs.declared.answers.Undo.{Undo}
use Rattle.row_versions.specs.{declared.place.Place.Place, declared.version.Version.Version}
use Rattle.row_versions.specs.Chains.{Chains, versions_at, sees}
use Rattle.read_view.specs.Sight.{is_seen, Sight as ReadSight}
use Rattle.law_stored_rows.specs.Tables.{Said, HasItsColumns, in_table}
use Rattle.law_stored_rows.proofs.Values.{place_itself, same_place}
use Rattle.law_past_agreement.specs.{Rows.is_at, Rows.is_place, Rows.row_of, Rows.row_opened, Ids.id_of}
use Rattle.law_past_agreement.specs.Agreement.{AreVersionsBy, ViewAgrees, versions_of}
use Rattle.law_past_agreement.proofs.Ids.{AreIds, ids_of}
use Rattle.world.specs.{State.WorldState, State.Logged, Told.IsTold, Undoing.read_into}
use Rattle.law_world_agreement.specs.Agreement.{sight_of, Agrees}
use Rattle.law_world_agreement.proofs.Ending.{work_of}
use Rattle.row_search.specs.{declared.scan.Scan.Scan, Sights.sees_by, Tables.ShowsRows}
use Rattle.row_changes.specs.Told.{AreRowsAs}
use Rattle.row_changes.specs.declared.row_change.RowChange.TheVariants.{Record, Keys}
use Rattle.undo_apply.specs.declared.work_room.WorkRoom.{WorkRoom}
use Rattle.law_found_rows.proofs.Showing.{IsUnseen, shows_lagging}
use Rattle.desks.specs.declared.desk.Doing.TheVariants.{Nothing, Searching, Changing, Lagging, Undoing}
use Rattle.desks.specs.{declared.desk.Desk.Desk, declared.desk.Doing.Doing, Desks.desk_at, Desks.doing_in, Desks.doing_at, Desks.is_quiet_doing}
use Rattle.desks.specs.Holding.{IsLast, IsOwnView, RowHeld, RowHeldAt, RowsHeld, newest_place, lags_in, lags_at, said_beside}
use Rattle.law_other_places.proofs.{Quiet.quiet_lags, Rows.last_place}

-- who has something under way has a desk
pub busy_at_a_desk : (s : ℕ) (desks : List Desk) → (doing_at s desks ≢ Nothing) → s < length desks
busy_at_a_desk s [] busy = absurd (busy refl)
busy_at_a_desk zero (desk ∷ desks) busy = omega arith
busy_at_a_desk (suc s) (desk ∷ desks) busy = let below = busy_at_a_desk s desks busy in omega arith

-- ---- somebody's keys lag at the place, or nobody's

below_or_last : (s n : ℕ) → s < suc n → (s < n) ⊎ (s ≡ n)
below_or_last s n below = elim (cases_eq s n) [ inl same ↦ inr same | inr differs ↦ inl (omega (arith, below, differs)) ]

module _ (place : Place) (state : WorldState) (desks : List Desk) where
  abbrev Lags : ℕ → Type 0
  Lags s = lags_at place state desks s ≡ true

  first_of : (n : ℕ) → ((w : ℕ) × Lags w) ⊎ ((s : ℕ) → s < n → lags_at place state desks s ≡ false)
  first_of zero = inr (λ s below. absurd (omega (arith, below)))
  first_of (suc n) = elim (first_of n) [
    | inl some ↦ inl some
    | inr none ↦ elim (cases_Bool (lags_at place state desks n)) [
      | inl is ↦ inl (n, is)
      | inr not ↦ inr (λ s below. elim (below_or_last s n below) [
        | inl less ↦ none s less
        | inr same ↦ subst (λ (u : ℕ). lags_at place state desks u ≡ false) (sym same) not
      ])
    ]
  ]

  nothing_at : (s : ℕ) → doing_at s desks ≡ Nothing → lags_at place state desks s ≡ false
  nothing_at s is = ap (λ d. is_place place (lags_in state s d)) is

  pub who_lags : ((w : ℕ) × Lags w) ⊎ ((s : ℕ) → lags_at place state desks s ≡ false)
  who_lags = elim (first_of (length desks)) [
    | inl some ↦ inl some
    | inr none ↦ inr (λ s. elim (cases_Bool (lags_at place state desks s)) [
      | inl is ↦ none s (busy_at_a_desk s desks (λ nothing. true≢false (sym is ∙ nothing_at s nothing)))
      | inr not ↦ not
    ])
  ]

-- the change by which a session's keys lag at this place
pub lags_by : (chains : Chains) (beside : Said) (state : WorldState) (w : ℕ) (undo : Undo) (room : WorkRoom) (doing : Doing) (place : Place)
    → RowHeld chains beside state w undo room doing → is_place place (lags_in state w doing) ≡ true → (logged : Logged) × IsLast state w logged place
lags_by chains beside state w undo room doing place row is = by doing row is
  where
    here : {logged : Logged} {other : Place} → IsLast state w logged other → is_place place (newest_place state.schemas (own w state.past)) ≡ true
        → (logged : Logged) × IsLast state w logged place
    here {logged} {other} last is =
        (logged, subst (IsLast state w logged) (same_place other place (sym (ap (is_place place) (last_place last)) ∙ is)) last)

    by : (doing : Doing) → RowHeld chains beside state w undo room doing → is_place place (lags_in state w doing) ≡ true
        → (logged : Logged) × IsLast state w logged place
    by (Changing (Keys change)) row is = here row.1.last is
    by Lagging row is = here row.newest.last is
    by Undoing row is = here row.last is
    by Nothing row is = absurd (cc)
    by (Searching on) row is = absurd (cc)
    by (Changing (Record change key after)) row is = absurd (cc)

-- ---- the newest version of a place that an open transaction has changed is its own, and no other reader sees it by a view

-- the newest version of the place, and the others
pub record IsWrittenBy (chains : Chains) (place : Place) (id : ℕ) : Type 0 where
  pub version : Version
  pub others : List Version
  pub versions : versions_at place chains ≡ version ∷ others
  pub writer_is : version.writer ≡ id

module _ {chains : Chains} {state : WorldState} (agrees : Agrees chains state) {w : ℕ} {logged : Logged} {place : Place}
    (last : IsLast state w logged place) where
  abbrev at : Change → Bool
  at = is_at state.schemas place

  change_at : at last.change ≡ true
  change_at = ap (is_place place) last.place_is ∙ place_itself place

  own_parts : (v : ℕ) (versions : List Version) → AreVersionsBy state.past v (row_opened state.past place) at versions
      → (behind : List Version) × (versions ≡ versions_of (id_of state.past w) at (own w state.past) ++ behind)
  own_parts v versions by = elim (eqb_tells v w) [
    | inl same ↦ (by.behind, by.parts ∙ ap (λ (n : ℕ). versions_of (id_of state.past n) at (own n state.past) ++ by.behind) same.1)
    | inr differs ↦ absurd (false≢true (sym (by.alone w (λ same. differs.1 (sym same))) ∙
        (ap (list_any at) last.own_is ∙ ap (λ b. b || list_any at last.before) change_at)))
  ]

  pub written : IsWrittenBy chains place (id_of state.past w)
  written =
      let parts = own_parts (agrees.lists.rows place).0 (versions_at place chains) (agrees.lists.rows place).1 in
      record {
        version = record { writer = id_of state.past w; row = row_of last.change };
        others = versions_of (id_of state.past w) at last.before ++ parts.0;
        versions =
            parts.1 ∙ (ap (λ changes. versions_of (id_of state.past w) at changes ++ parts.0) last.own_is ∙ ap (λ b. cond b
            (record { writer = id_of state.past w; row = row_of last.change } ∷ versions_of (id_of state.past w) at last.before) (versions_of (id_of state.past
            w) at last.before) ++ parts.0) change_at);
        writer_is = refl;
      }

  ids : AreIds state.past
  ids = ids_of state.past agrees.lists.ordered

  has_id : 0 < id_of state.past w
  has_id = elim (cases_lt 0 (id_of state.past w)) [
    | inl some ↦ some
    | inr none ↦ let nothing : [] ≡ last.change ∷ last.before = sym (ids.no_id w (omega (arith, none))) ∙ last.own_is in absurd (cc)
  ]

  is_open : IsOpen w state.past
  is_open = ap is_some (work_of chains state w last.session last.work agrees last.has_work).level_is

  -- by a view of another session
  pub unseen_by : {s : ℕ} {view : ReadSight} {reader : ℕ} → s ≢ w → IsOwnView state s view reader → sees reader view (id_of state.past w) ≡ false
  unseen_by {s} {view} {reader} differs is =
      let mine = work_of chains state s is.session is.work agrees is.has_work in
      let open_s : IsOpen s state.past = ap is_some mine.level_is in
      let reader_is : id_of state.past s ≡ reader = mine.id_is ∙ sym is.reader_is in
      let apart : id_of state.past w ≢ id_of state.past s = λ same. differs (sym (ids.distinct w s is_open open_s has_id same)) in
      let agreed : ViewAgrees state.past s (Some (sight_of is.seen)) = subst (λ o. ViewAgrees state.past s (option_map sight_of o)) is.view_is mine.view_is in
      let unseen : is_seen view (id_of state.past w) ≡ false = ap (λ (v : ReadSight). is_seen v (id_of state.past w)) is.same
      ∙ (agreed.1.alike (id_of state.past w) (inr (w, is_open, refl, has_id)) apart ∙ ids.open_not_among w agreed.0 is_open) in
      tells reader_is apart unseen
    where
      tells : id_of state.past s ≡ reader → id_of state.past w ≢ id_of state.past s → is_seen view (id_of state.past w) ≡ false
          → sees reader view (id_of state.past w) ≡ false
      tells reader_is apart unseen = grind (arith, nat_tests, reader_is, apart, unseen)

-- ---- a reader, where it doesn't see what another session has changed

-- a table has its columns
pub columns_told : (chains : Chains) (said : Said) (state : WorldState) (table : ℕ) {schema : Schema} → AreRowsAs chains said state
    → slice_get state.schemas table ≡ Some schema → HasItsColumns schema
columns_told chains said state table {schema} coded there =
    let clustered = coded.clustered.tables table schema there in
    record {
      primary = clustered.primary;
      primary_is = clustered.primary_is;
      few = coded.keyed.few table schema there;
      keys = λ which key is. let entries = coded.keyed.keys table which schema key there is in (entries.indexed, entries.indexed_is);
    }

module _ {chains : Chains} {state : WorldState} {desks : List Desk} (rows : RowsHeld chains state desks) (agrees : Agrees chains state)
    (told : IsTold state) (s : ℕ) (searching : is_quiet_doing (doing_at s desks) ≡ true) {schema : Schema} (scan : Scan)
    (there : slice_get state.schemas scan.table ≡ Some schema) (le : scan.which ≤ length schema.keys)
    (unseen : (w : ℕ) (logged : Logged) (place : Place) → s ≢ w → IsLast state w logged place → sees_by scan.sight (id_of state.past w) ≡ false) where
  lagging_unseen : (w : ℕ) (place : Place) (desk : Option Desk) → desk_at w desks ≡ desk → lags_at place state desks w ≡ true
      → IsUnseen chains rows.said scan.sight place
  lagging_unseen w place None is lags = absurd (true≢false (sym lags ∙ ap (λ desk. is_place place (lags_in state w (doing_in desk))) is))
  lagging_unseen w place (Some desk) is lags =
      let differs : s ≢ w = λ same. true≢false (sym lags
      ∙ quiet_lags state w desks place (subst (λ u. is_quiet_doing (doing_at u desks) ≡ true) same searching)) in
      let last = lags_by chains (said_beside chains rows.said state desks w) state w (read_into desk.undo) desk.room desk.doing place
      (subst (RowHeldAt chains (said_beside chains rows.said state desks w) state w) is (rows.each w))
      (sym (ap (λ desk. is_place place (lags_in state w (doing_in desk))) is) ∙ lags) in
      let by : IsWrittenBy chains place (id_of state.past w) = written agrees last.1 in
      record {
        version = by.version;
        others = by.others;
        newest_is = by.versions;
        tells = rows.lagging w place lags;
        unseen = ap (sees_by scan.sight) by.writer_is ∙ unseen w last.0 place differs last.1;
      }

  pub shows_beside : ShowsRows schema scan state (in_table scan.table chains)
  shows_beside = shows_lagging state chains rows.said told rows.coded schema scan there (columns_told chains rows.said state scan.table rows.coded there) le
      (λ place. elim (who_lags place state desks) [
        | inl some ↦ inr (lagging_unseen some.0 place (desk_at some.0 desks) refl some.1)
        | inr none ↦ inl (rows.settled place none)
      ])
