-- What a session sees now is what the view would show that it would take now.
-- `Showing` and `Barred` take a view's rows for the session's own by it; no view is taken.
use Rattle.std.proofs.Common.{◌≡◌, ◌≢◌, ◌∙◌, inr, refl, sym, ap, ℕ, ◌<◌, false, List, ◌∷◌, is_some, arith}
use Rattle.std.proofs.lemmas.Bool.Decides.{nat_tests}
use Rattle.inno_types.specs.{declared.value.Value.Value}
use Rattle.inno_model.specs.{declared.event.Event.Event, declared.event.Event.TheVariants.View as ViewTaken}
use Rattle.inno_model.specs.Past.{commits, IsOpen}
use Rattle.read_view.specs.Sight.{is_seen}
use Rattle.row_versions.specs.{declared.place.Place.Place, Chains.Chains, Chains.versions_at, Chains.first_seen, Chains.sees}
use Rattle.law_stored_rows.specs.Tables.{in_table}
use Rattle.law_past_agreement.specs.{Ids.id_of, Order.IsOrdered, Order.created, Rows.is_at, Rows.row_opened, Rows.row_seen, Agreement.AreVersions}
use Rattle.law_past_agreement.proofs.{Agree.view_now, Agree.visible_is, Rows.rows_stay, Ids.ids_of}
use Rattle.world.specs.State.{WorldState, Session, Work, HasWork}
use Rattle.law_world_agreement.specs.Agreement.{Agrees}
use Rattle.law_world_agreement.proofs.{Settled.rows_told, Ending.work_of}
use Rattle.law_locked_rows.specs.Now.{row_now, sight_now}

pub now_seen : (h : List Event) (chains : Chains)
    → ((place : Place) → AreVersions h (row_opened h place) (is_at (created h) place) (versions_at place chains)) → IsOrdered h → (s : ℕ) → IsOpen s h
    → (place : Place) → first_seen (sees (id_of h s) (sight_now h)) (versions_at place chains) ≡ row_seen h s (commits h) place
now_seen h chains rows ordered s is_open place =
    visible_is (ViewTaken s ∷ h) chains
    (λ other. rows_stay (row_opened h other) (is_at (created h) other) (ViewTaken s) h (λ u. inr refl) (λ u. refl) (λ n id. refl) (λ n. refl) (rows other))
    (is_open, ordered) s (commits h) (sight_now h) is_open (view_now h ordered s) place

-- the view that would be taken now shows nothing of an open transaction
pub open_unseen : (h : List Event) → IsOrdered h → (s w : ℕ) → IsOpen s h → IsOpen w h → 0 < id_of h w → s ≢ w
    → sees (id_of h s) (sight_now h) (id_of h w) ≡ false
open_unseen h ordered s w open_s open_w some differs =
    let ids = ids_of h ordered in
    let apart : id_of h w ≢ id_of h s = λ same. differs (sym (ids.distinct w s open_w open_s some same)) in
    let view = view_now h ordered s in
    let unseen : is_seen (sight_now h) (id_of h w) ≡ false =
    view.alike (id_of h w) (inr (w, open_w, refl, some)) apart ∙ ids.open_not_among w (commits h) open_w in
    tells apart unseen
  where
    tells : id_of h w ≢ id_of h s → is_seen (sight_now h) (id_of h w) ≡ false → sees (id_of h s) (sight_now h) (id_of h w) ≡ false
    tells apart unseen = grind (arith, nat_tests, apart, unseen)

module _ {chains : Chains} {state : WorldState} (agrees : Agrees chains state) {s : ℕ} {session : Session} {work : Work}
    (has : HasWork s session work state) where
  pub open_now : IsOpen s state.past
  open_now = ap is_some (work_of chains state s session work agrees has).level_is

  pub now_is : (table : ℕ) (value : Value) → first_seen (sees work.id (sight_now state.past)) (in_table table chains value) ≡ row_now s table state.past value
  now_is table value =
      ap (λ (id : ℕ). first_seen (sees id (sight_now state.past)) (in_table table chains value)) (sym (work_of chains state s session work agrees has).id_is)
      ∙ now_seen state.past chains (rows_told agrees) agrees.lists.ordered s open_now (record { table = table; key = value })
