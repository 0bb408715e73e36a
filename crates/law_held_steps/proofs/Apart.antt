-- Whose places are, as long as one session alone may write: nobody else is at work on a row, or has changed one. Where records are locked, the
-- locks are to tell it.
use Rattle.std.proofs.Common.{◌≡◌, ◌≢◌, ◌∙◌, ⊎_elim, sym, ap, ℕ, true, false, List, [], Option, None, Some}
use Rattle.std.proofs.lemmas.Bool.{cases_eq}
use Rattle.std.specs.List.{list_any}
use Rattle.inno_model.specs.Past.{own}
use Rattle.row_versions.specs.declared.place.Place.{Place}
use Rattle.law_past_agreement.specs.Rows.{is_at, is_place}
use Rattle.law_stored_rows.specs.Tables.{Said}
use Rattle.law_logged_changes.specs.Logs.{IsAloneAt}
use Rattle.desks.specs.Holding.{IsHeld, said_beside, works_in}
use Rattle.desks.specs.{declared.desk.Desk.Desk, declared.desk.Doing.Doing, Desks.Store, Desks.desk_at, Desks.doing_at, Desks.is_quiet_doing}
use Rattle.law_other_places.specs.Steps.{LeavesWork, MayPut}
use Rattle.law_other_places.proofs.Quiet.{quiet_works}
use Rattle.law_held_steps.proofs.AnyStep.{some_same}

-- what keys say beside the row that the session is at work on
abbrev pub beside_of : {store : Store} → IsHeld store → ℕ → Said
beside_of {store} held s = said_beside held.chains held.rows.said store.world store.desks s

-- who can't but be the writer is it
pub is_writer : (s : ℕ) (writer : Option ℕ) → (writer ≢ Some s → ⊥) → writer ≡ Some s
is_writer s None never = absurd (never (λ is. cc))
is_writer s (Some w) never = ⊎_elim (λ same. ap Some same) (λ differs. absurd (never (λ is. differs (some_same w s is)))) (cases_eq w s)

-- who has more than a search under way may write
pub busy_writes : (s : ℕ) {store : Store} → IsHeld store → {doing : Doing} → doing_at s store.desks ≡ doing → is_quiet_doing doing ≡ false
    → store.writer ≡ Some s
busy_writes s {store} held is busy =
    is_writer s store.writer (λ other. let e : true ≡ false = sym (held.owned.quiet s other) ∙ ap is_quiet_doing is ∙ busy in cc)

module _ {s : ℕ} {store : Store} (held : IsHeld store) (mine : store.writer ≡ Some s) where
  another : (u : ℕ) → u ≢ s → store.writer ≢ Some u
  another u differs is = differs (some_same u s (sym is ∙ mine))

  pub others_clean : (u : ℕ) → u ≢ s → own u store.world.past ≡ []
  others_clean u differs = held.owned.clean u (another u differs)

  pub others_quiet : (u : ℕ) → u ≢ s → is_quiet_doing (doing_at u store.desks) ≡ true
  others_quiet u differs = held.owned.quiet u (another u differs)

  pub alone_at : (place : Place) → IsAloneAt place s store.world
  alone_at place u differs = ap (list_any (is_at store.world.schemas place)) (others_clean u differs)

  apart : (at : Option Place) (u : ℕ) (other : Place) → u ≢ s → works_in store.world u (doing_at u store.desks) ≡ Some other → is_place other at ≡ false
  apart at u other differs works =
      absurd (let e : None ≡ Some other = sym (quiet_works store.world u (doing_at u store.desks) (others_quiet u differs)) ∙ works in cc)

  pub may_put : (place : Place) → MayPut s place store.world store.desks
  may_put place = record { apart = apart (Some place); alone = alone_at place }

  pub leaves_work : (at : Option Place) (now : List Desk) → ((u : ℕ) → u ≢ s → desk_at u now ≡ desk_at u store.desks)
      → LeavesWork s at store.world store.desks now
  leaves_work at now same = record { same = same; apart = apart at }
