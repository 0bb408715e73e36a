-- A step of one session at one place leaves to the others the entries that they have alone.
-- The session's own step is told in `OwnSteps`; both are about `AreEntriesOwned` (specs/Entries.antt).
use Rattle.std.proofs.Common.{◌≡◌, ◌≢◌, ◌∙◌, sym, ap, ℕ, true, false, List, [], ◌++◌, Option, slice_get}
use Rattle.std.proofs.lemmas.Bool.{true≢false}
use Rattle.std.specs.List.{list_any}
use Rattle.inno_types.specs.{declared.lock.Lock.Lock, declared.value.Schema.Schema}
use Rattle.inno_model.specs.Past.{own}
use Rattle.row_versions.specs.{declared.place.Place.Place, Chains.Chains}
use Rattle.law_stored_rows.specs.{Tables.Said}
use Rattle.law_past_agreement.specs.{Rows.is_at, Rows.is_place, Ids.id_of, Agreement.versions_of}
use Rattle.world.specs.State.{WorldState, Session, Work, HasWork}
use Rattle.law_locks.specs.Guards.{has_alone}
use Rattle.law_other_places.specs.Steps.{StepsAt}
use Rattle.law_other_places.proofs.Sessions.{each}
use Rattle.law_locked_rows.specs.Entries.{IsKeyed, OwnsEntries, AreEntriesOwned, newest_has}

-- at first nobody has changed anything
pub first_entries : (chains : Chains) (said : Said) (state : WorldState) (granted : List Lock) → ((s : ℕ) → own s state.past ≡ [])
    → AreEntriesOwned chains said state granted
first_entries chains said state granted none s session work place at keyed has changed =
    absurd (true≢false (sym changed ∙ ap (list_any (is_at state.schemas place)) (none s)))

-- the key of the place as the world before has it
abbrev pub keyed_before : {place : Place} {at : ℕ} {old new : WorldState} → new.schemas ≡ old.schemas → IsKeyed place at new → IsKeyed place at old
keyed_before {place} schemas is = record {
  schema = is.schema;
  there = ap (λ (x : List Schema). slice_get x place.table) (sym schemas) ∙ is.there;
  primary = is.primary;
  primary_is = is.primary_is;
  key = is.key;
  key_is = is.key_is;
  indexed = is.indexed;
  indexed_is = is.indexed_is;
  has_key = is.has_key;
}

module _ (t : ℕ) (at : Option Place) {chains after : Chains} {said now : Said} {old new : WorldState} {granted : List Lock} (granted_now : List Lock)
    (step : StepsAt t at chains after said now old new) (owned : AreEntriesOwned chains said old granted)
    (ids : (s : ℕ) → s ≢ t → id_of new.past s ≡ id_of old.past s)
    (keeps : (s : ℕ) (session : Session) (work : Work) → s ≢ t → HasWork s session work old → (index : ℕ) (key : List ℕ)
    → has_alone work.txn index key granted ≡ true → has_alone work.txn index key granted_now ≡ true)
    (apart : (s : ℕ) (place : Place) → s ≢ t → list_any (is_at old.schemas place) (own s old.past) ≡ true → is_place place at ≡ false) where
  abbrev Of : ℕ → Type 0
  Of s =
      (session : Session) (work : Work) (place : Place) (which : ℕ) (keyed : IsKeyed place which new) → HasWork s session work new
      → list_any (is_at new.schemas place) (own s new.past) ≡ true → OwnsEntries after now new granted_now s work place which keyed

  others : (s : ℕ) → s ≢ t → Of s
  others s differs session work place which keyed has changed =
      let left = step.sessions s differs in
      let had : HasWork s session work old = record { session_is = sym left.session ∙ has.session_is; work_is = has.work_is } in
      let same : list_any (is_at new.schemas place) (own s new.past) ≡ list_any (is_at old.schemas place) (own s old.past)
      = λ i. list_any (is_at (step.schemas i) place) (left.own_is i) in
      let changed_before : list_any (is_at old.schemas place) (own s old.past) ≡ true = sym same ∙ changed in
      let away = apart s place differs changed_before in
      let is = owned s session work place which (keyed_before step.schemas keyed) had changed_before in
      record {
        fronts = is.fronts;
        behind = is.behind;
        versions = step.versions place away ∙ is.versions
            ∙ sym (λ i. versions_of (ids s differs i) (is_at (step.schemas i) place) (left.own_is i) ++ is.behind);
        tells = λ value has_entry. is.tells value has_entry ∙ ap (newest_has keyed.key.column value) (sym (step.says place which away));
        alone = λ value some all. keeps s session work differs had _ _ (is.alone value some all);
      }

  pub entries_after : Of t → AreEntriesOwned after now new granted_now
  entries_after mine s = each t Of mine others s
