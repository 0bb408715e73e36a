-- What all sessions know of their rows stays through a step of one of them at its place.
-- The steps of changes each end with it. Where nobody's keys lag is told here, too.
use Rattle.std.proofs.Common.{◌≡◌, ◌≢◌, ◌∙◌, ◌⊎◌, inl, inr, ⊎_elim, refl, sym, ap, subst, ℕ, true, false, List, Option, None, Some}
use Rattle.std.proofs.lemmas.Bool.{cases_Bool, cases_eq, cond-false, true≢false}
use Rattle.std.specs.List.{list_any}
use Rattle.inno_model.specs.Past.{own}
use Rattle.row_versions.specs.{declared.place.Place.Place, declared.version.Version.Version}
use Rattle.row_versions.specs.Chains.{Chains, versions_at, older, is_same_place}
use Rattle.law_stored_rows.specs.{Tables.Said, Tables.SayTheSameBut, Tables.TellsOfOlder, Entries.has_value}
use Rattle.law_stored_rows.proofs.Values.{same_place}
use Rattle.law_past_agreement.specs.Rows.{is_place}
use Rattle.world.specs.State.{WorldState}
use Rattle.law_world_agreement.specs.Agreement.{Agrees}
use Rattle.row_changes.specs.Told.{SaysAt}
use Rattle.row_changes.specs.declared.row_change.RowChange.TheVariants.{Record, Keys}
use Rattle.law_logged_changes.specs.Logs.{LogsAgree}
use Rattle.desks.specs.declared.desk.Doing.TheVariants.{Nothing, Searching, Changing, Lagging, Undoing}
use Rattle.desks.specs.{declared.desk.Desk.Desk, declared.desk.Doing.Doing, Desks.desk_at, Desks.doing_in, Desks.doing_at}
use Rattle.desks.specs.Holding.{newest_place, lags_in, lags_at, said_beside}
use Rattle.law_other_places.specs.Beside.{LeavesPlace, LeavesIt}
use Rattle.desks.specs.Holding.{RowHeldAt, RowsHeld, works_in}
use Rattle.law_other_places.specs.Steps.{StepsAt, LeavesWork}
use Rattle.law_other_places.proofs.Gluing.{at}
use Rattle.law_other_places.proofs.Rows.{row_left_at}

-- what holds at one number, and at each other
pub each : (s : ℕ) (P : ℕ → Type 0) → P s → ((u : ℕ) → u ≢ s → P u) → (u : ℕ) → P u
each s P here elsewhere u = ⊎_elim (λ same. subst P (sym same) here) (elsewhere u) (cases_eq u s)

-- ---- where keys lag

lags_or_not : (state : WorldState) (s : ℕ) (doing : Doing) → (lags_in state s doing ≡ None) ⊎ (lags_in state s doing ≡ works_in state s doing)
lags_or_not state s (Changing (Record change key after)) = inl refl
lags_or_not state s (Changing (Keys change)) = inr refl
lags_or_not state s Nothing = inr refl
lags_or_not state s (Searching on) = inr refl
lags_or_not state s Lagging = inr refl
lags_or_not state s Undoing = inr refl

-- keys of a session lag nowhere but where it is at work
pub lags_there : (state : WorldState) (desks : List Desk) (s : ℕ) (place other : Place) → works_in state s (doing_at s desks) ≡ Some place
    → is_same_place place other ≡ false → lags_at other state desks s ≡ false
lags_there state desks s place other works apart = elim (lags_or_not state s (doing_at s desks)) [
  | inl none ↦ ap (is_place other) none
  | inr same ↦ ap (is_place other) (same ∙ works) ∙ apart
]

-- and where they lag it is at work
pub works_there : (state : WorldState) (desks : List Desk) (s : ℕ) (place : Place) → lags_at place state desks s ≡ true
    → works_in state s (doing_at s desks) ≡ Some place
works_there state desks s place lags = elim (lags_or_not state s (doing_at s desks)) [
  | inl none ↦ absurd (true≢false (sym lags ∙ ap (is_place place) none))
  | inr same ↦ go (works_in state s (doing_at s desks)) refl (sym (ap (is_place place) same) ∙ lags)
]
  where
    go : (found : Option Place) → works_in state s (doing_at s desks) ≡ found → is_place place found ≡ true → works_in state s (doing_at s desks) ≡ Some place
    go None is at = absurd (cc)
    go (Some other) is at = is ∙ ap Some (same_place other place at)

lags_as : (old new : WorldState) (s : ℕ) (doing : Doing) → new.schemas ≡ old.schemas → own s new.past ≡ own s old.past
    → lags_in new s doing ≡ lags_in old s doing
lags_as old new s (Changing (Keys change)) schemas own_is = λ i. newest_place (schemas i) (own_is i)
lags_as old new s Lagging schemas own_is = λ i. newest_place (schemas i) (own_is i)
lags_as old new s Undoing schemas own_is = λ i. newest_place (schemas i) (own_is i)
lags_as old new s other schemas own_is = refl

-- ---- the other sessions

module _ (t : ℕ) {at_place : Option Place} {chains after : Chains} {old new : WorldState} {desks now : List Desk} (rows : RowsHeld chains old desks)
    {said : Said} (step : StepsAt t at_place chains after rows.said said old new) (work : LeavesWork t at_place old desks now) where
  pub leaves_other : (other : Place) → is_place other at_place ≡ false → LeavesPlace other chains after said old new
  leaves_other other apart = record {
    told = step.told;
    tells = step.tells;
    schemas = step.schemas;
    coded_now = step.coded;
    versions = step.versions other apart;
    row = λ key is. step.rows other key apart is;
    entries = step.entries other apart;
  }

  pub lags_still : (s : ℕ) (other : Place) → s ≢ t → lags_at other new now s ≡ lags_at other old desks s
  lags_still s other differs =
      ap (λ desk. is_place other (lags_in new s (doing_in desk))) (work.same s differs)
      ∙ ap (is_place other) (lags_as old new s (doing_at s desks) step.schemas (step.sessions s differs).own_is)

  -- beside its place keys say what is said
  beside_says : (s : ℕ) (other : Place) → s ≢ t → works_in old s (doing_at s desks) ≡ Some other
      → SayTheSameBut other said (said_beside after said new now s)
  beside_says s other differs works table which value apart =
      let lags = lags_still s (at table value) differs ∙ lags_there old desks s other (at table value) works apart in
      cond-false (lags_at (at table value) new now s) (versions_at (at table value) after) (said table which value) lags

  module _ (logs : LogsAgree old) (agrees : Agrees after new) where
    pub other_left : (s : ℕ) → s ≢ t → RowHeldAt after (said_beside after said new now s) new s (desk_at s now)
    other_left s differs =
        subst (RowHeldAt after (said_beside after said new now s) new s) (sym (work.same s differs))
        (row_left_at s chains said logs agrees (step.sessions s differs) (said_beside chains rows.said old desks s) (said_beside after said new now s)
        (desk_at s desks)
        step.schemas
        (λ desk there. subst (λ (d : Option Desk). LeavesIt chains after said old new (said_beside after said new now s) (works_in old s (doing_in d)))
        there (leaves (works_in old s (doing_at s desks)) refl))
        (rows.each s))
      where
        leaves : (found : Option Place) → works_in old s (doing_at s desks) ≡ found
            → LeavesIt chains after said old new (said_beside after said new now s) found
        leaves None works = record {}
        leaves (Some other) works = (leaves_other other (work.apart s other differs works), beside_says s other differs works)

    -- what the session itself knows, and what keys say of its place
    module _ (mine : RowHeldAt after (said_beside after said new now t) new t (desk_at t now))
        (mine_lags : (other : Place) → lags_at other new now t ≡ true → TellsOfOlder other after said)
        (mine_settled : (place : Place) → is_place place at_place ≡ true → lags_at place new now t ≡ false → SaysAt place after said)
        (mine_was : (other : Place) → lags_at other old desks t ≡ true → is_place other at_place ≡ false → lags_at other new now t ≡ true) where
      tells_still : (other : Place) → is_place other at_place ≡ false → TellsOfOlder other chains rows.said → TellsOfOlder other after said
      tells_still other apart was which column value has =
          ap (list_any (λ (version : Version). has_value column value version.row)) (step.says other which apart)
          ∙ was which column value
          (sym (ap (λ (versions : List Version). list_any (λ (version : Version). has_value column value version.row) (older versions))
          (step.versions other apart)) ∙ has)

      was_none : (other : Place) → is_place other at_place ≡ false → ((s : ℕ) → lags_at other new now s ≡ false) → (s : ℕ)
          → lags_at other old desks s ≡ false
      was_none other apart none = each t (λ s. lags_at other old desks s ≡ false)
          (⊎_elim (λ lags. absurd (true≢false (sym (mine_was other lags apart) ∙ none t))) (λ not. not) (cases_Bool (lags_at other old desks t)))
          (λ s differs. sym (lags_still s other differs) ∙ none s)

      pub rows_after : RowsHeld after new now
      rows_after = record {
        said = said;
        coded = step.coded;
        each = each t (λ s. RowHeldAt after (said_beside after said new now s) new s (desk_at s now)) mine other_left;
        lagging = λ s other. each t (λ s. lags_at other new now s ≡ true → TellsOfOlder other after said) (mine_lags other) (λ s differs lags.
            let was = sym (lags_still s other differs) ∙ lags in
            tells_still other (work.apart s other differs (works_there old desks s other was)) (rows.lagging s other was)) s;
        settled = λ other none. elim (cases_Bool (is_place other at_place)) [
          | inl same ↦ mine_settled other same (none t)
          | inr apart ↦ λ which. step.says other which apart ∙ rows.settled other (was_none other apart none) which ∙ sym (step.versions other apart)
        ];
      }
