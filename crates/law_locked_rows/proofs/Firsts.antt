-- A change that put the first version of its row is the session's first one there: whoever takes it back has no other change of the place,
-- so that its lock may go with the record.
use Rattle.std.proofs.Common.{◌≡◌, ◌≢◌, ◌∙◌, ◌⊎◌, inl, inr, refl, sym, ap, subst, ℕ, ◌||◌, true, false, List, [], ◌∷◌, None, Some, slice_get}
use Rattle.std.proofs.lemmas.Bool.{cases_Bool}
use Rattle.std.specs.List.{list_any}
use Rattle.inno_db.specs.{declared.change.Change.Change, declared.change.Change.TheVariants.Create}
use Rattle.row_versions.specs.{declared.place.Place.Place}
use Rattle.law_stored_rows.proofs.Values.{same_place}
use Rattle.law_past_agreement.specs.Rows.{place_in, is_place, is_at}
use Rattle.world.specs.{State.WorldState, State.Logged, Told.IsTold}
use Rattle.undo_apply.proofs.Columns.{before_new}
use Rattle.law_logged_changes.specs.Logs.{RecordsAt, LogStands, IsLogOf, Stands, taken_back, records_of}
use Rattle.law_logged_changes.proofs.Logs.{here_or_not, taken_elsewhere, key_told, newest_stands}
use Rattle.entries.proofs.Order.{key_itself}
use Rattle.std.proofs.lemmas.Bool.{eq-eqb}
use Rattle.law_other_places.specs.Beside.{IsKeyOf}
use Rattle.law_locked_rows.proofs.Owning.{one_key}

module _ {state : WorldState} (told : IsTold state) (place : Place) (key : List ℕ) (key_is : IsKeyOf place state.schemas key) where
  -- a log tells of no row of which there is no record
  none_of : (records : RecordsAt) (log : List Logged) (own : List Change) → records place.table key ≡ None → LogStands state records log own
      → list_any (is_at state.schemas place) own ≡ false
  none_of records log [] absent stands = refl
  none_of records [] (Create schema ∷ own) absent stands = none_of records [] own absent stands
  none_of records (logged ∷ log) (Create schema ∷ own) absent stands = none_of records (logged ∷ log) own absent stands
  none_of records [] (change ∷ own) absent stands = absurd stands
  none_of records (logged ∷ log) (change ∷ own) absent stands = elim (cases_Bool (is_at state.schemas place change)) [
    | inl here ↦ absurd (not_here here)
    | inr apart ↦ ap (λ b. b || list_any (is_at state.schemas place) own) apart
        ∙ none_of (taken_back logged.undo records) log own (taken_elsewhere logged.undo records place.table key (elsewhere apart) ∙ absent) stands.1
  ]
    where
      there : Stands state records logged log change
      there = stands.0

      its_key : IsKeyOf there.place state.schemas logged.undo.key
      its_key = record {
        schema = there.schema;
        there = ap (slice_get state.schemas) there.tells.table_is ∙ there.tells.there;
        at = key_told there.tells;
      }

      -- whose record is there
      differs : (place.table ≡ logged.undo.table) × (key ≡ logged.undo.key) → ⊥
      differs same =
          let has = there.record_is told in
          let none : records logged.undo.table logged.undo.key ≡ None =
          subst (λ (t : ℕ). records t logged.undo.key ≡ None) same.0 (subst (λ (k : List ℕ). records place.table k ≡ None) same.1 absent) in
          let e = has.there in
          cc

      not_here : is_at state.schemas place change ≡ true → ⊥
      not_here is =
          let one : there.place ≡ place = same_place there.place place (sym (ap (is_place place) there.place_is) ∙ is) in
          let keys : logged.undo.key ≡ key = one_key place state.schemas logged.undo.key key
          (subst (λ (p : Place). IsKeyOf p state.schemas logged.undo.key) one its_key) key_is in
          differs (ap (λ (p : Place). p.table) (sym one) ∙ there.tells.table_is, sym keys)

      elsewhere : is_at state.schemas place change ≡ false → (place.table ≢ logged.undo.table) ⊎ (key ≢ logged.undo.key)
      elsewhere apart = elim (here_or_not logged.undo place.table key) [ inl same ↦ absurd (differs same) | inr other ↦ other ]

pub first_alone : {state : WorldState} (told : IsTold state) (logged : Logged) (log : List Logged) (change : Change) (before : List Change) (place : Place)
    → IsLogOf state (logged ∷ log) (change ∷ before) → place_in state.schemas change ≡ Some place → logged.undo.kind ≡ 1
    → IsKeyOf place state.schemas logged.undo.key → place.table ≡ logged.undo.table → list_any (is_at state.schemas place) before ≡ false
first_alone {state} told logged log change before place stands placed kind key_is table =
    none_of told place logged.undo.key key_is (taken_back logged.undo (records_of state)) log before
    (subst (λ (t : ℕ). taken_back logged.undo (records_of state) t logged.undo.key ≡ None) (sym table) gone)
    (newest_stands change before placed stands).1
  where
    gone : taken_back logged.undo (records_of state) logged.undo.table logged.undo.key ≡ None
    gone = rw (eq-eqb logged.undo.table logged.undo.table refl, key_itself logged.undo.key) (before_new logged.undo kind)
