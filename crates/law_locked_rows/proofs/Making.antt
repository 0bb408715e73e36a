-- A step of a change keeps what is held of all sessions, where the place of the change is its session's own.
-- The steps of records and keys are put together with what is owned. Whoever changes rows under record locks is to cite it.
use Rattle.std.proofs.Common.{◌≡◌, ◌≢◌, ◌∙◌, ⊎_elim, refl, sym, ap, subst, ℕ, ◌+◌, ◌<◌, ◌^◌, true, false, cond, List, ◌∷◌, length}
use Rattle.std.proofs.Common.{Option, None, Some, slice_get, arith, eq-eqb}
use Rattle.std.proofs.lemmas.Bool.{ne_eqb}
use Rattle.lock_rules.proofs.Booleans.{or_cases}
use Rattle.row_changes.proofs.{Sessions.one_found, Pushed.changes_row}
use Rattle.store_api.specs.declared.answers.Undo.{Undo}
use Rattle.undo_apply.specs.declared.work_room.WorkRoom.{WorkRoom}
use Rattle.std.specs.List.{list_any}
use Rattle.inno_types.specs.{declared.lock.Lock.Lock, declared.value.Schema.Schema, declared.value.Value.Value}
use Rattle.inno_model.specs.{Past.own}
use Rattle.row_versions.specs.{declared.place.Place.Place, Chains.Chains}
use Rattle.law_stored_rows.specs.Tables.{Said}
use Rattle.law_stored_rows.proofs.Values.{same_place}
use Rattle.law_stored_rows.specs.Edits.{clustered_index}
use Rattle.law_locks.specs.Guards.{has_alone}
use Rattle.law_past_agreement.specs.{Rows.place_in, Rows.is_place, Rows.is_at, Order.created}
use Rattle.world.specs.State.{WorldState}
use Rattle.world.specs.Told.{IsTold}
use Rattle.law_world_agreement.specs.Agreement.{Agrees}
use Rattle.shared_lists.specs.Fitting.{FitsThen}
use Rattle.row_changes.specs.Rows.{IsChangingRow, ChangesRow, IsAtRow, MakesRow, place_of, row_after}
use Rattle.row_changes.specs.Reached.{Reached, Went, Done, Hindered}
use Rattle.row_changes.specs.{declared.record_change.RecordChange.RecordChange, declared.keys_change.KeysChange.KeysChange}
use Rattle.row_changes.specs.{declared.row_change.RowChange.RowChange}
use Rattle.row_changes.specs.{Records.IsChangingRecord, Edits.change_of, Keys.IsChangingKeys}
use Rattle.row_changes.specs.declared.row_change.RowChange.TheVariants.{Record, Keys}
use Rattle.law_logged_changes.specs.{Logs.LogsAgree, Logs.IsAloneAt, GoingOn.KeepsBeside, GoingOn.GoesOnAgreed, GoingOn.IsAloneIn, GoingOn.EntersAgreed}
use Rattle.law_logged_changes.proofs.{Logging.row_all, Leaving.aside_left, Entering.aside_agreed, Entering.goes_on, Entering.place_there}
use Rattle.lock_table.specs.Queue.{AreApart}
use Rattle.desks.specs.declared.desk.Doing.TheVariants.{Nothing, Changing, Lagging}
use Rattle.desks.specs.{declared.desk.Desk.Desk, declared.desk.Doing.Doing, Desks.Store, Desks.desk_at, Desks.doing_at, Desks.with_doing}
use Rattle.desks.specs.{Desks.is_undoing}
use Rattle.desks.specs.Holding.{AreFew, IsLastOf, lags_in, said_beside, newest_place}
use Rattle.law_held_steps.specs.Making.{doing_after, made_to}
use Rattle.law_held_steps.proofs.Keeping.{goes_same, goes_changed}
use Rattle.law_held_steps.proofs.Made.{edit_fits, pushed_short}
use Rattle.law_held_steps.proofs.AnyStep.{changes_at_a_desk, doing_here}
use Rattle.law_held_steps.proofs.AnyStep.{desk_elsewhere}
use Rattle.desks.specs.Holding.{RowHeld, works_in}
use Rattle.law_locked_rows.specs.Owning.{HasAlone, AreOwned, KeepsAlone}
use Rattle.law_locked_rows.specs.Many.{IsHeldByAll}
use Rattle.law_other_places.specs.Steps.{MayPut, MayReach}
use Rattle.law_other_places.specs.Steps.{LeavesWork}
use Rattle.law_other_places.proofs.Gluing.{at}
use Rattle.law_other_places.proofs.Asked.{its_row, may_advance, may_change, nobody_lags}
use Rattle.law_locked_rows.proofs.Owning.{owned_after, works_apart, alone_at}
use Rattle.law_other_places.proofs.Rows.{keys_at}
use Rattle.law_other_places.proofs.Steps.{key_kept, end_kept, given_up_kept}
use Rattle.law_other_places.proofs.RecordSteps.{record_kept, aside_kept}
use Rattle.law_locked_rows.proofs.Holding.{keeps_all}

-- who has the place's record alone may put one there
pub may_of_owner : {chains : Chains} {state : WorldState} {desks : List Desk} {granted : List Lock} → Agrees chains state → AreApart granted
    → AreOwned state desks granted → (t : ℕ) (place : Place) → HasAlone t place state granted → MayPut t place state desks
may_of_owner agrees apart owned t place mine = record {
  apart = λ s other differs works. works_apart agrees apart owned t mine s other differs works;
  alone = alone_at agrees apart owned t mine;
}

-- what the session's transaction had alone it has alone yet
mine_still : {t : ℕ} {place : Place} {old new : WorldState} {granted now : List Lock} → KeepsBeside t old new → KeepsAlone t old granted now
    → HasAlone t place old granted → HasAlone t place new now
mine_still {place = place} {now = now} beside keeps is =
    let open_now = beside.own is.session is.work is.has_work in
    record {
      session = open_now.session_now;
      work = open_now.work_now;
      has_work = open_now.has;
      key = is.key;
      key_is = record {
        schema = is.key_is.schema;
        there = ap (λ (x : List Schema). slice_get x place.table) beside.schemas ∙ is.key_is.there;
        at = is.key_is.at;
      };
      alone = subst (λ (n : ℕ). has_alone n (clustered_index place.table) is.key now ≡ true) (sym open_now.txn)
          (keeps is.session is.work (clustered_index place.table) is.key is.has_work is.alone);
    }

module _ (t : ℕ) (store : Store) (new : WorldState) (granted now : List Lock) (held : IsHeldByAll store granted) (was : IsTold store.world)
    (told : IsTold new) (few : length new.past < 2 ^ 63) (apart : AreApart now) (keeps : (s : ℕ) → KeepsAlone s store.world granted now) where
  abbrev old : WorldState
  old = store.world

  abbrev beside : Said
  beside = said_beside held.chains held.rows.said old store.desks t

  others_same : (next : Doing) (s : ℕ) → s ≢ t → desk_at s (with_doing t next store.desks) ≡ desk_at s store.desks
  others_same next s differs = desk_elsewhere t s (λ desk. record desk { doing = next }) store.desks differs

  -- where no entry has come, each session owns what it owned, and this one its place
  owned_still : (later : Doing) → t < length store.desks → KeepsBeside t old new → new.past ≡ old.past
      → ((place : Place) → works_in new t later ≡ Some place → HasAlone t place new now) → AreOwned new (with_doing t later store.desks) now
  owned_still later within left past mine =
      owned_after t held.owned left.schemas
      (λ s differs. record { session = left.others s differs; own_is = ap (own s) past }) (others_same later) (λ s differs. keeps s)
      (λ place has. mine_still left (keeps t)
      (held.owned.changed t place (sym (λ i. list_any (is_at (left.schemas i) place) (own t (past i))) ∙ has)))
      (λ place works. mine place (sym (ap (works_in new t) (doing_here t later store.desks within)) ∙ works))

  -- ---- before the keys

  module _ (change : RecordChange) (key : List ℕ) (after : Option (List Value)) (doing : doing_at t store.desks ≡ Changing (Record change key after)) where
    record_knows : IsChangingRecord t old change × (key ≡ change.key) × (after ≡ row_after change.edit)
    record_knows = may_advance held.rows t (Record change key after) doing

    abbrev p : IsChangingRecord t old change
    p = record_knows.0

    abbrev place : Place
    place = place_of p.schema change

    within : t < length store.desks
    within = changes_at_a_desk t store.desks doing

    not_undoing : is_undoing (doing_at t store.desks) ≡ false
    not_undoing = ap is_undoing doing

    pub sought : lags_in old t (doing_at t store.desks) ≡ None
    sought = ap (lags_in old t) doing

    -- the record may be put
    module _ (may : MayPut t place old store.desks) where
      abbrev row : IsChangingRow t held.chains beside old (Record change key after)
      row = (p, (may_change held.rows t sought change p (nobody_lags t place may sought)).1, record_knows.1, record_knows.2)

      alone : IsAloneIn t old (Record change key after)
      alone schema found = subst (λ (s : Schema). IsAloneAt (place_of s change) t old) (one_found p.schema schema p.table.there found) may.alone

      module _ (next : KeysChange) (c : ChangesRow t held.chains beside old new (Record change key after) (Went (Keys next))) where
        goes : EntersAgreed t held.chains beside old new change next
        goes = goes_on t held.chains beside old new (Record change key after) (Went (Keys next)) held.agrees alone row c told few

        logs : LogsAgree new
        logs = row_all t held.chains beside old new (Record change key after) (Went (Keys next)) row c alone held.logs

    pub record_made : (reached : Reached RowChange) → MakesRow t held.chains beside old new (Record change key after) reached
        → MayReach t old store.desks (Record change key after) reached
        → ((place : Place) → works_in new t (doing_after (Record change key after) reached) ≡ Some place → HasAlone t place new now)
        → IsHeldByAll (made_to t store new (Record change key after) reached) now
    record_made (Went (Record next also behind)) c may mine =
        let a = aside_agreed t old new c.0.0.aside held.chains (IsAtRow t held.chains beside new (Record next also behind)) held.agrees told c.0.1 in
        let later = Changing (Record next also behind) in
        keeps_all held p.has_work a.beside (goes_same a.past) a.agrees was later within not_undoing refl (subst FitsThen (sym a.past) held.fits)
        (aside_kept t held.rows held.logs was told c.0.0.aside a.agrees change key after doing (with_doing t later store.desks) later
        (doing_here t later store.desks within) refl (others_same later) (λ undo room. a.holds))
        (owned_still later within a.beside a.past mine) apart (aside_left t old new c.0.0.aside held.logs)
        (subst (AreFew held.chains) (sym a.past) held.short)
    record_made (Went (Keys next)) made may_all mine =
        let may = may_all p.schema p.table.there in
        let c = changes_row t held.chains beside old new (Record change key after) (Went (Keys next)) (row may) made in
        let e : EntersAgreed t held.chains beside old new change next = goes may next c in
        let later = Changing (Keys next) in
        let longer : length new.past ≡ 1 + length old.past = omega (arith, ap length e.past) in
        let own_is : own t new.past ≡ change_of change.table change.edit ∷ own t old.past = ap (own t) e.past
        ∙ ap (λ b. cond b (change_of change.table change.edit ∷ own t old.past) (own t old.past)) (eq-eqb t t refl) in
        let placed : place_in new.schemas (change_of change.table change.edit) ≡ Some place =
        ap (λ (x : List Schema). place_in x (change_of change.table change.edit)) e.beside.schemas
        ∙ place_there old.schemas change.table change.edit p.schema p.table.there in
        let works : works_in new t later ≡ Some place = ap (newest_place new.schemas) own_is ∙ placed in
        keeps_all held p.has_work e.beside (goes_changed e.past) e.agrees was later within not_undoing refl
        (subst FitsThen (sym e.past) (
          edit_fits (created old.past) change.table p.schema change.edit change.key
              (ap (λ (schemas : List Schema). slice_get schemas change.table) (sym held.agrees.lists.tables) ∙ p.table.there) p.fits,
          held.fits,
        ))
        (record_kept t held.rows held.logs was told change key after doing (row may) next c.0.0 e c.0.2 c.0.3 (doing_here t later store.desks within)
        (record { same = others_same later; apart = may.apart }))
        (owned_after t held.owned e.beside.schemas (λ s differs. record {
          session = e.beside.others s differs;
          own_is = ap (own s) e.past ∙ ap (λ b. cond b (change_of change.table change.edit ∷ own s old.past) (own s old.past))
              (ne_eqb t s (λ same. differs (sym same)));
        }) (others_same later) (λ s differs. keeps s)
        (λ other has. ⊎_elim
        (λ here. mine other (works ∙ ap Some (same_place place other (sym (ap (is_place other) placed) ∙ here))))
        (λ rest. mine_still e.beside (keeps t)
        (held.owned.changed t other (sym (ap (λ (x : List Schema). list_any (is_at x other) (own t old.past)) e.beside.schemas) ∙ rest)))
        (or_cases (is_at new.schemas other (change_of change.table change.edit)) _ (sym (ap (list_any (is_at new.schemas other)) own_is) ∙ has)))
        (λ other is. mine other (sym (ap (works_in new t) (doing_here t later store.desks within)) ∙ is))) apart
        (logs may next c)
        (λ other. let pushed = pushed_short held.chains e.after _ _ (length old.past + 2 ^ 62) e.pushes.pushes held.short other in
        omega (arith, longer, pushed))
    record_made Done c may mine = absurd c
    record_made (Hindered same why) c may mine =
        let a = aside_agreed t old new c.2.0 held.chains (IsAtRow t held.chains beside new (Record change key after)) held.agrees told c.1 in
        keeps_all held p.has_work a.beside (goes_same a.past) a.agrees was Nothing within not_undoing refl (subst FitsThen (sym a.past) held.fits)
        (aside_kept t held.rows held.logs was told c.2.0 a.agrees change key after doing (with_doing t Nothing store.desks) Nothing
        (doing_here t Nothing store.desks within) refl (others_same Nothing) (λ undo room. record {}))
        (owned_still Nothing within a.beside a.past mine) apart (aside_left t old new c.2.0 held.logs)
        (subst (AreFew held.chains) (sym a.past) held.short)

  -- ---- the keys

  module _ (change : KeysChange) (doing : doing_at t store.desks ≡ Changing (Keys change)) where
    knows : (undo : Undo) × (room : WorkRoom) × RowHeld held.chains beside old t undo room (Changing (Keys change))
    knows = its_row held.rows t (Keys change) doing

    pub keys : IsChangingKeys held.chains beside old change
    keys = knows.2.0

    last : IsLastOf old t change
    last = knows.2.1

    abbrev its_place : Place
    its_place = at change.table keys.value

    its_work : works_in old t (doing_at t store.desks) ≡ Some its_place
    its_work = ap (works_in old t) doing ∙ keys_at held.logs change keys last

    work : (later : Doing) → LeavesWork t (Some its_place) old store.desks (with_doing t later store.desks)
    work later = record {
      same = others_same later;
      apart = λ s other differs works. works_apart held.agrees held.apart held.owned t (held.owned.working t its_place its_work) s other differs works;
    }

    at_desk : t < length store.desks
    at_desk = changes_at_a_desk t store.desks doing

    module _ (reached : Reached RowChange) (c : ChangesRow t held.chains beside old new (Keys change) reached) where
      keys_go : GoesOnAgreed t held.chains beside old new (Keys change) reached
      keys_go = goes_on t held.chains beside old new (Keys change) reached held.agrees (record {}) keys c told few

      keys_logs : LogsAgree new
      keys_logs = row_all t held.chains beside old new (Keys change) reached keys c (record {}) held.logs

    pub keys_made : (reached : Reached RowChange) → MakesRow t held.chains beside old new (Keys change) reached
        → ((place : Place) → works_in new t (doing_after (Keys change) reached) ≡ Some place → HasAlone t place new now)
        → IsHeldByAll (made_to t store new (Keys change) reached) now
    keys_made (Went (Record next also behind)) c mine = absurd c.0
    keys_made (Went (Keys next)) c mine =
        let a = keys_go (Went (Keys next)) c in
        let later = Changing (Keys next) in
        keeps_all held last.last.has_work a.beside (goes_same a.past) a.agrees was later at_desk (ap is_undoing doing) refl
        (subst FitsThen (sym a.past) held.fits)
        (key_kept t held.rows held.logs was told change doing keys last next c.0 (doing_here t later store.desks at_desk) (work later) a.agrees)
        (owned_still later at_desk a.beside a.past mine) apart (keys_logs (Went (Keys next)) c) (subst (AreFew held.chains) (sym a.past) held.short)
    keys_made Done c mine =
        let a = keys_go Done c in
        keeps_all held last.last.has_work a.beside (goes_same a.past) a.agrees was Nothing at_desk (ap is_undoing doing) refl
        (subst FitsThen (sym a.past) held.fits)
        (end_kept t held.rows held.logs was told change doing keys last c.0 c.1 (doing_here t Nothing store.desks at_desk) (work Nothing) a.agrees)
        (owned_still Nothing at_desk a.beside a.past mine) apart (keys_logs Done c) (subst (AreFew held.chains) (sym a.past) held.short)
    keys_made (Hindered same why) c mine =
        let a = (keys_go (Hindered same why) c).1 in
        keeps_all held last.last.has_work a.beside (goes_same a.past) a.agrees was Lagging at_desk (ap is_undoing doing) refl
        (subst FitsThen (sym a.past) held.fits)
        (given_up_kept t held.rows held.logs was told change doing keys last c.2.0 c.1 (with_doing t Lagging store.desks)
        (doing_here t Lagging store.desks at_desk) (others_same Lagging) a.agrees)
        (owned_still Lagging at_desk a.beside a.past mine) apart (keys_logs (Hindered same why) c) (subst (AreFew held.chains) (sym a.past) held.short)

  -- ---- each step

  -- it keeps what is held
  pub row_made : (change : RowChange) → doing_at t store.desks ≡ Changing change → (reached : Reached RowChange)
      → ((chains : Chains) (said : Said) → IsAtRow t chains said old change → MakesRow t chains said old new change reached)
      → MayReach t old store.desks change reached
      → ((place : Place) → works_in new t (doing_after change reached) ≡ Some place → HasAlone t place new now)
      → IsHeldByAll (made_to t store new change reached) now
  row_made (Record change key after) doing reached made may mine =
      record_made change key after doing reached (made held.chains beside (may_advance held.rows t (Record change key after) doing)) may mine
  row_made (Keys change) doing reached made may mine =
      keys_made change doing reached (made held.chains beside (may_advance held.rows t (Keys change) doing)) mine
