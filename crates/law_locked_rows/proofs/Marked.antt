-- A session that has locked a marked entry sees no row with its value there, though another may be changing the row.
-- `AtMarked` passes such an entry by it, and `Unmet` and `Barred` read the row behind others' changes here.
use Rattle.std.proofs.Common.{arith, ◌≡◌, ◌≢◌, ◌∙◌, ⊎_elim, inl, inr, refl, sym, ap, subst, ℕ, Bool, true, false, List, [], ◌∷◌, ◌++◌, Option, None, Some}
use Rattle.std.proofs.lemmas.Bool.{cases_Bool, true≢false, or_right}
use Rattle.std.proofs.lemmas.Bool.Decides.{eqb_tells, nat_tests}
use Rattle.std.proofs.lemmas.List.{append_cancel_left}
use Rattle.std.specs.Prelude.{◌&&◌, ◌||◌}
use Rattle.std.specs.List.{list_any, list_all}
use Rattle.inno_types.specs.{declared.lock.Lock.Lock, declared.value.Value.Value}
use Rattle.inno_db.specs.declared.change.Change.{Change}
use Rattle.inno_model.specs.{declared.event.Event.Event, Past.own, Past.commits, Past.committed}
use Rattle.key_codec.specs.Keys.{HasEntry, key_code, entry_code}
use Rattle.entries.specs.Pairs.{value_of}
use Rattle.row_versions.specs.{declared.place.Place.Place, declared.version.Version.Version, Chains.versions_at, Chains.newest}
use Rattle.law_stored_rows.specs.{Edits.key_index, Entries.has_value}
use Rattle.law_past_agreement.specs.{Rows.is_at, Rows.row_at, Rows.row_opened, Ids.id_of, Ids.is_settled, Agreement.AreVersionsBy, Agreement.IsSettled}
use Rattle.law_past_agreement.specs.{Agreement.versions_of}
use Rattle.law_past_agreement.proofs.{Rows.row_at-append, Rows.seen_alike, Rows.newest_all, Standing.is_among_all}
use Rattle.world.specs.State.{WorldState, Session, Work, HasWork}
use Rattle.world.specs.Told.{pairs_of}
use Rattle.law_logged_changes.specs.Logs.{IsAloneAt}
use Rattle.law_logged_changes.proofs.Listed.{listed_of}
use Rattle.law_locks.specs.Guards.{has_record}
use Rattle.law_locks.proofs.Clashes.{nobody_beside}
use Rattle.world.specs.{State.Logged, Undoing.read_into}
use Rattle.row_changes.specs.Told.{SaysAt}
use Rattle.law_stored_rows.proofs.Values.{place_itself}
use Rattle.law_past_agreement.specs.Rows.{is_place}
use Rattle.law_world_agreement.proofs.Readers.{seen_newest}
use Rattle.law_other_places.proofs.Quiet.{quiet_lags}
use Rattle.desks.specs.{declared.desk.Desk.Desk, Desks.Store, Desks.doing_at, Desks.doing_in, Desks.desk_at, Desks.is_quiet_doing, Holding.lags_at}
use Rattle.desks.specs.{Holding.lags_in, Holding.IsLast, Holding.said_beside}
use Rattle.desks.specs.Holding.{RowHeldAt}
use Rattle.law_other_places.proofs.Readers.{who_lags, lags_by}
use Rattle.law_other_places.proofs.Gluing.{marks_at}
use Rattle.law_locked_rows.specs.Many.{IsHeldByAll}
use Rattle.law_locked_rows.specs.Now.{row_now}
use Rattle.law_locked_rows.specs.Entries.{IsKeyed, AreEntriesOwned, some_have, all_have, has}
use Rattle.law_locked_rows.specs.Entries.{newest_has}
use Rattle.law_locked_rows.proofs.Locked.{latest_at}
use Rattle.law_locked_rows.proofs.Marks.{is_unmarked, told_newest}

-- ---- what a marked entry tells

-- where the newest row behind has the value and the first row told lacks it, some have it and others not
some_front : (column : ℕ) (value : Value) (fronts behind : List Version) → has_value column value (newest behind) ≡ true
    → some_have column value fronts behind ≡ true
some_front column value fronts behind is = or_right (list_any (has column value) fronts) (has_value column value (newest behind)) is

not_all : (column : ℕ) (value : Value) (fronts behind : List Version) → has_value column value (newest (fronts ++ behind)) ≡ false
    → all_have column value fronts behind ≡ false
not_all column value [] behind is = is
not_all column value (front ∷ fronts) behind is =
    ap (λ b. (b && list_all (has column value) fronts) && has_value column value (newest behind)) is

-- ---- the rows behind another's changes

settled_now : (h : List Event) (id : ℕ) → IsSettled h id → is_settled h (commits h) id ≡ true
settled_now h id settled = grind (arith, nat_tests, is_among_all h, settled)

-- what the latest commits leave of a place is the newest row behind the changes of who has some there
pub behind_is : (h : List Event) (w : ℕ) (opened : Option (List Value)) (at : Change → Bool) (versions : List Version)
    (by : AreVersionsBy h w opened at versions)
    → newest by.behind ≡ row_at opened at (committed (commits h) h)
behind_is h w opened at versions by =
    newest_all by.behind ∙ (seen_alike (λ id. true) (is_settled h (commits h)) (IsSettled h) (λ id c. sym (settled_now h id c)) by.behind by.are_settled
    ∙ by.reads (commits h) (inl (omega arith)))

-- so it is what another session sees
pub behind_seen : (h : List Event) (w s : ℕ) (opened : Option (List Value)) (at : Change → Bool) (versions : List Version)
    (by : AreVersionsBy h w opened at versions) → s ≢ w → newest by.behind ≡ row_at opened at (own s h ++ committed (commits h) h)
behind_seen h w s opened at versions by differs =
    behind_is h w opened at versions by ∙ sym (row_at-append opened at (own s h) (committed (commits h) h) (by.alone s differs))

-- whose keys lag at the place has a change there
has_change : {state : WorldState} {w : ℕ} {logged : Logged} {place : Place} → IsLast state w logged place
    → list_any (is_at state.schemas place) (own w state.past) ≡ true
has_change {state = state} {w = w} {place = place} last =
    ap (list_any (is_at state.schemas place)) last.own_is ∙ ap (λ b. b || list_any (is_at state.schemas place) last.before)
    (ap (is_place place) last.place_is ∙ place_itself place)

-- where nobody else has changes, keys say what is there
settled_alone : {store : Store} {granted : List Lock} (held : IsHeldByAll store granted) (s : ℕ) → is_quiet_doing (doing_at s store.desks) ≡ true
    → (place : Place) → IsAloneAt place s store.world → SaysAt place held.chains held.rows.said
settled_alone {store} held s searching place alone = elim (who_lags place store.world store.desks) [
  | inr none ↦ held.rows.settled place none
  | inl some ↦ absurd (lags some.0 (desk_at some.0 store.desks) refl some.1)
]
  where
    lags : (w : ℕ) (desk : Option Desk) → desk_at w store.desks ≡ desk → lags_at place store.world store.desks w ≡ true → ⊥
    lags w None is there = true≢false (sym there ∙ ap (λ desk. is_place place (lags_in store.world w (doing_in desk))) is)
    lags w (Some desk) is there =
        let differs : w ≢ s = λ same. true≢false (sym there
        ∙ quiet_lags store.world w store.desks place (subst (λ u. is_quiet_doing (doing_at u store.desks) ≡ true) (sym same) searching)) in
        let last = lags_by held.chains (said_beside held.chains held.rows.said store.world store.desks w) store.world w (read_into desk.undo) desk.room
        desk.doing place
        (subst (RowHeldAt held.chains (said_beside held.chains held.rows.said store.world store.desks w) store.world w) is (held.rows.each w))
        (sym (ap (λ desk. is_place place (lags_in store.world w (doing_in desk))) is) ∙ there) in
        true≢false (sym (has_change last.1) ∙ alone w differs)

module _ {store : Store} {granted : List Lock} (held : IsHeldByAll store granted) (owned : AreEntriesOwned held.chains held.rows.said store.world granted)
    {s : ℕ} {session : Session} {work : Work} (has_work : HasWork s session work store.world) (place : Place) (at : ℕ) (keyed : IsKeyed place at store.world)
    (value : Value) (has_entry : HasEntry keyed.indexed.kind value) where
  abbrev past : List Event
  past = store.world.past

  abbrev here : Change → Bool
  here = is_at store.world.schemas place

  abbrev entry : List ℕ
  entry = entry_code keyed.indexed.kind value (key_code keyed.primary.kind place.key)

  abbrev column : ℕ
  column = keyed.key.column

  abbrev Lacks : Type 0
  Lacks = (row : List Value) → row_now s place.table past place.key ≡ Some row → has_value column value (Some row) ≡ false

  marked_lacks : value_of entry (pairs_of store.world (key_index place.table at)) ≡ Some (1 ∷ [])
      → newest_has column value (held.rows.said place.table at place.key) ≡ false
  marked_lacks marked =
      let entries = held.rows.coded.keyed.keys place.table at keyed.schema keyed.key keyed.there keyed.key_is in
      let primaries : entries.primary ≡ keyed.primary = cc (entries.primary_is, keyed.primary_is) in
      let columns : entries.indexed ≡ keyed.indexed = cc (entries.indexed_is, keyed.indexed_is) in
      told_newest column value (held.rows.said place.table at place.key) (marks_at keyed.schema column (pairs_of store.world (key_index place.table at))
      (held.rows.said place.table at) entries place.key value keyed.primary keyed.indexed primaries columns keyed.has_key has_entry) ∙ ap is_unmarked marked

  module _ (locked : has_record work.txn (key_index place.table at) entry granted ≡ true)
      (marked : value_of entry (pairs_of store.world (key_index place.table at)) ≡ Some (1 ∷ [])) where
    lacks_by : (found : Option (List Value)) → row_now s place.table past place.key ≡ found → has_value column value found ≡ false → Lacks
    lacks_by found is none row seen = ap (has_value column value) (sym seen ∙ is) ∙ none

    -- another has changes of the row
    by_other : (w : ℕ) → s ≢ w → (theirs : Session) (other : Work) → HasWork w theirs other store.world
        → (by : AreVersionsBy past w (row_opened past place) here (versions_at place held.chains))
        → list_any here (own w past) ≡ true → Lacks
    by_other w differs theirs other theirs_work by changed =
        let owns = owned w theirs other place at keyed theirs_work changed in
        let same : owns.behind ≡ by.behind = append_cancel_left (versions_of (id_of past w) here (own w past)) owns.behind by.behind
        (sym owns.versions ∙ by.parts) in
        let none : has_value column value (newest (owns.fronts ++ owns.behind)) ≡ false =
        owns.tells value has_entry ∙ marked_lacks marked in
        let seen : newest owns.behind ≡ row_now s place.table past place.key = ap newest same
        ∙ behind_seen past w s (row_opened past place) here (versions_at place held.chains) by differs
        ∙ ap (λ schemas. row_at (row_opened past place) (is_at schemas place) (own s past ++ committed (commits past) past)) held.agrees.lists.tables in
        lacks_by (newest owns.behind) (sym seen) (⊎_elim
        (λ is. absurd (nobody_beside work.txn other.txn (key_index place.table at) entry
        (λ txns. differs ((listed_of held.chains store.world w theirs other held.agrees theirs_work).alone s session work has_work txns))
        granted held.apart (owns.alone value (some_front column value owns.fronts owns.behind is) (not_all column value owns.fronts owns.behind none))
        locked))
        (λ is. is) (cases_Bool (has_value column value (newest owns.behind))))

    module _ (searching : is_quiet_doing (doing_at s store.desks) ≡ true) where
      -- nobody else has
      by_none : IsAloneAt place s store.world → Lacks
      by_none alone =
          let newest_is : newest (versions_at place held.chains) ≡ row_now s place.table past place.key =
          latest_at past s place (newest (versions_at place held.chains))
          (λ t differs. ap (λ schemas. list_any (is_at schemas place) (own t past)) (sym held.agrees.lists.tables) ∙ alone t differs)
          (seen_newest held.chains store.world held.agrees place) in
          lacks_by (newest (versions_at place held.chains)) (sym newest_is)
          (ap (newest_has column value) (sym (settled_alone held s searching place alone at)) ∙ marked_lacks marked)

      pub lacks_value : Lacks
      lacks_value =
          let is = held.agrees.lists.rows place in
          elim (eqb_tells is.0 s) [
            | inl same ↦ by_none (subst (λ w. (t : ℕ) → t ≢ w → list_any here (own t past) ≡ false) same.1 is.1.alone)
            | inr other ↦ elim (cases_Bool (list_any here (own is.0 past))) [
              | inl changed ↦
                  let mine = held.owned.changed is.0 place changed in
                  by_other is.0 (λ me. other.1 (sym me)) mine.session mine.work mine.has_work is.1 changed
              | inr none ↦ by_none (λ t differs. elim (eqb_tells t is.0) [
                | inl same ↦ ap (λ w. list_any here (own w past)) same.1 ∙ none
                | inr apart ↦ is.1.alone t apart.1
              ])
            ]
          ]
