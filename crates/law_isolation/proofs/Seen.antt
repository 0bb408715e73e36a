-- The latest rows without those that were missed are a loose reading.
use Rattle.std.proofs.Common.{◌≡◌, ◌≢◌, ◌∙◌, ap, sym, subst, refl, ℕ, Bool, true, false, not, cond, List, [], ◌∷◌, Option, Some, None, inl, inr, ◌⊎◌}
use Rattle.std.specs.Prelude.{◌==◌, ◌&&◌, slice_get}
use Rattle.std.specs.FinMap.{get}
use Rattle.std.proofs.lemmas.Bool.Decides.{Decides-eqb}
use Rattle.inno_types.specs.declared.value.Value.{Value}
use Rattle.inno_types.specs.declared.value.Schema.{Schema}
use Rattle.inno_types.specs.declared.stmt.Filter.{Filter}
use Rattle.inno_types.specs.declared.stmt.Stmt.{Stmt}
use Rattle.inno_db.specs.Database.{Place}
use Rattle.inno_db.specs.Names.{table_place}
use Rattle.inno_db.specs.Conditions.{matches}
use Rattle.inno_db.specs.Keyed.{IsKeyed}
use Rattle.inno_model.specs.declared.event.Event.{Event}
use Rattle.inno_model.specs.Moments.{Throughout, Sometime}
use Rattle.sql_history.specs.Items.{base}
use Rattle.sql_history.specs.Statements.{Sight}
use Rattle.sql_history.specs.LooseReading.{IsLooseReading}
use Rattle.sql_history.specs.Answers.{MaySee}
use Rattle.law_isolation.specs.Searching.{Searches, is_missed, without_missed, HasFoundStill}
use Rattle.law_isolation.proofs.Retained.{get_kept}
use Rattle.law_isolation.proofs.Taken.{takes}

now : (P : List Event → Type 0) (s : ℕ) (past : List Event) → past ≢ [] → P past → Sometime P s past
now P s [] some holds = absurd (some refl)
now P s (e ∷ past) some holds = inl holds

now_of : (P : List Event → Type 0) (s : ℕ) (past : List Event) → past ≢ [] → Throughout P s past → P past
now_of P s [] some all = absurd (some refl)
now_of P s (e ∷ past) some all = all.0

module _ (s table : ℕ) (test found : List Value → Bool) (past : List Event) (some : past ≢ []) (still : HasFoundStill s table test found past) where
  abbrev kept : Place → Bool
  kept place = not ((place.0 == table) && is_missed test found (get (base s past).rows place))

  -- a row that stood still was not missed
  keeps : (place : Place) (row : Option (List Value)) → Throughout (λ h. get (base s h).rows place ≡ row) s past → kept place ≡ true
  keeps place None all =
      ap (λ o. not ((place.0 == table) && is_missed test found o)) (now_of (λ h. get (base s h).rows place ≡ None) s past some all) ∙ off (place.0 == table)
    where
      off : (b : Bool) → not (b && false) ≡ true
      off true = refl
      off false = refl
  keeps place (Some row) all =
      ap (λ o. not ((place.0 == table) && is_missed test found o)) (now_of (λ h. get (base s h).rows place ≡ Some row) s past some all)
      ∙ elim (place.0 == table) as (λ b. (place.0 == table) ≡ b → not (b && (test row && not (found row))) ≡ true) [
        | false ↦ λ other. refl
        | true ↦ λ same.
            let here : place.0 ≡ table = (Decides-eqb place.0 table).0 same in
            elim (test row) as (λ b. test row ≡ b → not (b && not (found row)) ≡ true) [
              | false ↦ λ fails. refl
              | true ↦ λ passes. ap (λ b. not (not b)) (still place.1 row
                  (subst (λ t. Throughout (λ h. get (base s h).rows (t, place.1) ≡ Some row) s past) here all) passes)
            ] refl
      ] refl

  loose : IsLooseReading s (base s) (λ place h. Unit {0}) (without_missed table test found (base s past)) past
  loose =
      record {
        tables = refl;
        still = λ place row all quiet.
            get_kept (base s past).rows kept place
            ∙ ap (λ b. cond b (get (base s past).rows place) None) (keeps place row all)
            ∙ now_of (λ h. get (base s h).rows place ≡ row) s past some all;
        moved = λ place.
            let at = get_kept (base s past).rows kept place in
            elim (kept place) as (λ b. get (without_missed table test found (base s past)).rows place ≡ cond b (get (base s past).rows place) None →
            (get (without_missed table test found (base s past)).rows place ≡ None) ⊎ Sometime
            (λ h. get (base s h).rows place ≡ get (without_missed table test found (base s past)).rows place) s past) [
              | false ↦ λ e. inl e
              | true ↦ λ e. inr (now (λ h. get (base s h).rows place ≡ get (without_missed table test found (base s past)).rows place) s past some (sym e))
            ] at;
      }

pub held_loose : (statement : Stmt) (name : List ℕ) (condition : Option Filter) (table : ℕ) (schema : Schema) (found : List Value → Bool) (s : ℕ)
    (past : List Event) → past ≢ [] → Searches statement name condition
    → table_place (base s past).schemas name ≡ Some table → slice_get (base s past).schemas table ≡ Some schema → IsKeyed (base s past) → HasFoundStill s
    table (matches schema.columns condition) found past
    → MaySee Sight.of_moments s statement (without_missed table (matches schema.columns condition) found (base s past)) past
held_loose statement name condition table schema found s past some searches there is keyed still = (
  loose s table (matches schema.columns condition) found past some still,
  takes (base s past) name table schema (matches schema.columns condition) found
      there is keyed statement condition searches,
)
