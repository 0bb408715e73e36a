-- What readers find in a world that agrees with its past.
use Rattle.std.proofs.Common.{◌≡◌, ℕ, Some, ap, sym, subst, ◌∙◌, is_some, option_map}
use Rattle.inno_model.specs.Past.{view_of}
use Rattle.row_versions.specs.{declared.place.Place.Place, Chains.Chains, Chains.versions_at, Chains.first_seen, Chains.newest, Chains.sees}
use Rattle.law_past_agreement.specs.{Rows.row_seen, Rows.IsNewestSeen, Agreement.ViewAgrees}
use Rattle.law_past_agreement.proofs.Agree.{visible_is, newest_row}
use Rattle.world.specs.State.{WorldState, Session, Work, Seen, HasWork}
use Rattle.law_world_agreement.specs.Agreement.{sight_of, Agrees}
use Rattle.law_world_agreement.proofs.Settled.{kept_of, rows_told}

module _ (chains : Chains) (state : WorldState) (agrees : Agrees chains state) where
  -- by the view of an open transaction
  pub seen_by_view : (s n : ℕ) (session : Session) (work : Work) (seen : Seen) (place : Place) → HasWork s session work state → work.view ≡ Some seen
      → view_of s state.past ≡ Some n
      → first_seen (sees work.id (sight_of seen)) (versions_at place chains) ≡ row_seen state.past s n place
  seen_by_view s n session work seen place has view is =
      let mine = kept_of agrees has in
      let v = subst (λ o. ViewAgrees state.past s (option_map sight_of o)) view mine.view_is in
      let same : v.0 ≡ n = let e = sym v.1.is-view ∙ is in cc in
      ap (λ id. first_seen (sees id (sight_of seen)) (versions_at place chains)) (sym mine.id_is)
      ∙ (visible_is state.past chains (rows_told agrees) agrees.lists.ordered s v.0 (sight_of seen) (ap is_some mine.level_is) v.1 place
      ∙ ap (λ m. row_seen state.past s m place) same)

  pub seen_newest : (place : Place) → IsNewestSeen state.past place (newest (versions_at place chains))
  seen_newest = newest_row state.past chains (rows_told agrees)
