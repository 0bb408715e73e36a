-- What a session knows of a row whose record it has locked: nobody else has changed it or is at work on it, so that its newest version is
-- what the session sees.
use Rattle.std.proofs.Common.{◌≡◌, ◌≢◌, ◌∙◌, ⊎_elim, inl, inr, refl, sym, ap, subst, ℕ, true, false, List, Option, None, Some}
use Rattle.std.proofs.lemmas.Bool.{cases_Bool}
use Rattle.std.proofs.lemmas.Bool.Decides.{eqb_tells}
use Rattle.std.specs.List.{list_any}
use Rattle.inno_types.specs.{declared.value.Value.Value, declared.value.Column.Column, declared.lock.Lock.Lock}
use Rattle.inno_model.specs.{declared.event.Event.Event, Past.own, Past.commits, Past.committed}
use Rattle.store_api.specs.declared.answers.Version.{Version as Coded}
use Rattle.key_codec.specs.Keys.{HasKey, key_code}
use Rattle.entries.specs.Pairs.{value_of}
use Rattle.row_versions.specs.{declared.place.Place.Place, Chains.versions_at, Chains.newest, Chains.is_same_place}
use Rattle.law_stored_rows.specs.{Edits.clustered_index, Records.IsCodeOf, Records.IsRecordWith, Records.kept_of, Records.row_shown}
use Rattle.law_stored_rows.proofs.{Values.same_place, RowRecords.record_of, RowRecords.record_read, RowRecords.no_record}
use Rattle.law_past_agreement.specs.{Order.created, Rows.is_at, Rows.row_opened, Rows.row_seen, Rows.IsNewestSeen}
use Rattle.law_past_agreement.proofs.Rows.{row_at-append}
use Rattle.world.specs.{State.WorldState, State.Session, State.Work, State.HasWork, Told.pairs_of}
use Rattle.law_world_agreement.proofs.Readers.{seen_newest}
use Rattle.row_changes.specs.{Told.SaysAt}
use Rattle.law_logged_changes.specs.Logs.{IsAloneAt}
use Rattle.law_logged_changes.proofs.Listed.{listed_of}
use Rattle.law_locks.specs.Guards.{has_record, has_alone}
use Rattle.law_locks.proofs.Clashes.{nobody_beside}
use Rattle.desks.specs.{Desks.Store, Desks.doing_at, Desks.is_quiet_doing, Holding.lags_at, Holding.lags_in, declared.desk.Doing.Doing}
use Rattle.desks.specs.declared.desk.Doing.TheVariants.{Nothing, Searching}
use Rattle.law_other_places.specs.Beside.{IsKeyOf}
use Rattle.law_locked_rows.specs.Owning.{HasAlone}
use Rattle.law_locked_rows.specs.Many.{IsHeldByAll}
use Rattle.law_other_places.specs.Steps.{MayPut}
use Rattle.law_locked_rows.proofs.Owning.{one_key}
use Rattle.law_other_places.proofs.Asked.{nobody_lags}
use Rattle.law_locked_rows.specs.Now.{row_now}

-- the newest row of a place, as a session sees it that alone may have changes there
pub latest_at : (h : List Event) (s : ℕ) (place : Place) (row : Option (List Value))
    → ((u : ℕ) → u ≢ s → list_any (is_at (created h) place) (own u h) ≡ false) → IsNewestSeen h place row → row ≡ row_seen h s (commits h) place
latest_at h s place row alone newest =
    let opened = row_opened h place in
    let at = is_at (created h) place in
    elim (eqb_tells newest.0 s) [
      | inl same ↦ rw same.1 at newest.2
      | inr differ ↦ newest.2 ∙ row_at-append opened at (own newest.0 h) (committed (commits h) h) (alone newest.0 differ.1)
          ∙ sym (row_at-append opened at (own s h) (committed (commits h) h) (newest.1 s (λ is. differ.1 (sym is))))
    ]

lags_nowhere : (state : WorldState) (s : ℕ) (doing : Doing) → is_quiet_doing doing ≡ true → lags_in state s doing ≡ None
lags_nowhere state s Nothing is = refl
lags_nowhere state s (Searching on) is = refl
lags_nowhere state s other is = absurd (cc)

module _ {store : Store} {granted : List Lock} (held : IsHeldByAll store granted) {s : ℕ} {session : Session} {work : Work}
    (has : HasWork s session work store.world) where
  module _ (place : Place) (key : List ℕ) (key_is : IsKeyOf place store.world.schemas key)
      (locked : has_record work.txn (clustered_index place.table) key granted ≡ true) where
    nobody_has : (t : ℕ) → t ≢ s → HasAlone t place store.world granted → ⊥
    nobody_has t differs is =
        let txns : work.txn ≢ is.work.txn = λ same. differs
        (sym ((listed_of held.chains store.world t is.session is.work held.agrees is.has_work).alone s session work has same)) in
        nobody_beside work.txn is.work.txn (clustered_index place.table) key txns granted held.apart
        (subst (λ (k : List ℕ). has_alone is.work.txn (clustered_index place.table) k granted ≡ true)
        (one_key place store.world.schemas is.key key is.key_is key_is) is.alone) locked

    -- nobody else has changes there
    pub lone : IsAloneAt place s store.world
    lone t differs = ⊎_elim (λ some. absurd (nobody_has t differs (held.owned.changed t place some))) (λ none. none)
        (cases_Bool (list_any (is_at store.world.schemas place) (own t store.world.past)))

    -- or is at work there
    pub free : MayPut s place store.world store.desks
    free = record {
      apart = λ t other differs works. ⊎_elim
          (λ same. absurd (nobody_has t differs
          (subst (λ (p : Place). HasAlone t p store.world granted) (sym (same_place place other same)) (held.owned.working t other works))))
          (λ not. not) (cases_Bool (is_same_place place other));
      alone = lone;
    }

    module _ (searching : is_quiet_doing (doing_at s store.desks) ≡ true) where
      pub none_lag : (t : ℕ) → lags_at place store.world store.desks t ≡ false
      none_lag = nobody_lags s place free (lags_nowhere store.world s (doing_at s store.desks) searching)

      -- so keys say what is there
      pub says : SaysAt place held.chains held.rows.said
      says = held.rows.settled place none_lag

    -- the newest version has what the session sees
    pub latest : newest (versions_at place held.chains) ≡ row_now s place.table store.world.past place.key
    latest = latest_at store.world.past s place (newest (versions_at place held.chains))
        (λ t differs. ap (λ schemas. list_any (is_at schemas place) (own t store.world.past)) (sym held.agrees.lists.tables) ∙ lone t differs)
        (seen_newest held.chains store.world held.agrees place)

    record_at : IsRecordWith key_is.schema key store.world.versions.kept_at (value_of key (pairs_of store.world (clustered_index place.table)))
        (versions_at place held.chains)
    record_at =
        let is = held.rows.coded.clustered.tables place.table key_is.schema key_is.there in
        let columns : key_is.at.column ≡ is.primary = cc (key_is.at.primary, is.primary_is) in
        let has_key : HasKey is.primary.kind place.key = subst (λ (c : Column). HasKey c.kind place.key) columns key_is.at.has_key in
        let code : key ≡ key_code is.primary.kind place.key = key_is.at.spelled ∙ ap (λ (c : Column). key_code c.kind place.key) columns in
        record_of key_is.schema key store.world.versions.kept_at place.table (value_of key (pairs_of store.world (clustered_index place.table)))
        (versions_at place held.chains)
        (subst (λ (k : List ℕ). IsRecordWith key_is.schema k (kept_of store.world.versions.kept_at place.table k)
        (value_of k (pairs_of store.world (clustered_index place.table))) (versions_at place held.chains)) (sym code) (is.records place.key has_key))

    -- So what is decoded from the record is what the session sees: its row, or none where it is marked.
    pub record_tells : (bytes : List ℕ) (coded : Coded) → value_of key (pairs_of store.world (clustered_index place.table)) ≡ Some bytes
        → IsCodeOf key_is.schema key bytes coded → row_now s place.table store.world.past place.key ≡ row_shown coded.marked coded.row
    record_tells bytes coded there code =
        let is = record_read key_is.schema key bytes store.world.versions.kept_at (versions_at place held.chains) coded
        (subst (λ (found : Option (List ℕ)). IsRecordWith key_is.schema key store.world.versions.kept_at found (versions_at place held.chains)) there record_at)
        code in
        sym latest ∙ ap newest is.0

    -- and where no record is there it sees no row
    pub nothing_tells : value_of key (pairs_of store.world (clustered_index place.table)) ≡ None → row_now s place.table store.world.past place.key ≡ None
    nothing_tells there =
        sym latest ∙ ap newest (no_record key_is.schema key store.world.versions.kept_at (versions_at place held.chains)
        (subst (λ (found : Option (List ℕ)). IsRecordWith key_is.schema key store.world.versions.kept_at found
        (versions_at place held.chains)) there record_at))
