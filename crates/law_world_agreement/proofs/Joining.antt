-- The first world, and sessions that join.
use Rattle.std.proofs.Common.{◌≡◌, ℕ, zero, suc, ◌+◌, List, [], ◌∷◌, ◌++◌, Option, Some, None, refl, sym, ap, subst, ◌∙◌, arith, length-append}
use Rattle.inno_model.specs.declared.event.Event.TheVariants.{Opened}
use Rattle.row_versions.specs.{Chains.Chains, Chains.versions_at}
use Rattle.law_past_agreement.proofs.Agree.{opened_versions}
use Rattle.world.specs.State.{WorldState, Session, Work}
use Rattle.law_world_agreement.specs.{Agreement.Agrees, Steps.IsJoined, Steps.IsFirst}
use Rattle.law_world_agreement.proofs.Settled.{works_at, Keeps, keeps_of, agreeing}
pub use Rattle.law_world_agreement.proofs.Settled.{agrees_alike}

pub first_agrees : (chains : Chains) (state : WorldState) → IsFirst chains state → Agrees chains state
first_agrees chains state first =
    let literal : WorldState =
    record state {
      past = Opened first.db ∷ [];
      names = [];
      schemas = first.db.schemas;
      sessions = [];
      txns = record
          { open_txns = []; begun = 0; next = 1 };
    } in
    agrees_alike chains literal state
    (agreeing (refl, tt) (omega arith) refl refl (λ s. (refl, record { level_is = refl; own_is = refl }))
    (λ place. opened_versions first.db place (versions_at place chains) (first.opened place)) (λ s le. refl) refl)
    first.names first.past first.schemas first.txns first.sessions

-- what holds of nobody's work and of a session without a transaction holds of each session once one has joined
works_joined : (P : Option (Option Work) → Type 0) → (P None → P (Some None)) → (y : Session) → y.work ≡ None → (xs : List Session) (u : ℕ)
    → P (works_at u xs) → P (works_at u (xs ++ y ∷ []))
works_joined P f y closed [] zero k = subst (λ work. P (Some work)) (sym closed) (f k)
works_joined P f y closed [] (suc u) k = k
works_joined P f y closed (x ∷ xs) zero k = k
works_joined P f y closed (x ∷ xs) (suc u) k = works_joined P f y closed xs u k

pub joined_agrees : (chains : Chains) (old new : WorldState) (name : List ℕ) → Agrees chains old → IsJoined name old new
    → Agrees chains new
joined_agrees chains old new name agrees joined =
    let y = joined.session in
    let names = old.names ++ name ∷ [] in
    let more = length-append old.names (name ∷ []) in
    agrees_alike chains (record old { names = names; sessions = old.sessions ++ y ∷ [] }) new
    (agreeing agrees.lists.ordered agrees.lists.small agrees.lists.tables agrees.lists.txns_are
    (λ u. works_joined (Keeps old.past u) (λ k. k.1) y joined.closed old.sessions u (keeps_of agrees u)) agrees.lists.rows
    (λ u le. agrees.lists.strangers u (omega (arith, le, more)))
    (length-append old.sessions (y ∷ []) ∙ (ap (λ n. n + 1) agrees.count ∙ sym more)))
    joined.names joined.past joined.schemas joined.txns joined.sessions
