-- The session that a search by the number of its open transaction finds.
use Rattle.std.specs.Prelude.{◌≡◌, ℕ, true, false, ◌+◌, ◌<◌, Option, None, Some, length}
use Rattle.std.proofs.Common.{eqb, ◌⊎◌, inl, inr, refl, sym, ap, ◌∙◌, arith}
use Rattle.std.proofs.lemmas.Option.{slice_get_within, slice_get_cases, same_Some}
use Rattle.std.specs.Option.{option_eq}
use Rattle.std.proofs.lemmas.Bool.{cases_eq, eq-eqb, eqb-true, false≢true}
use Rattle.world.specs.State.{WorldState, Session, Work, txn_of, IsSession}
use Rattle.waits.specs.Falls.{IsOpenAt}

-- who stands so has an open transaction of this number
pub stands_open : (state : WorldState) (s txn : ℕ) (session : Session) → IsSession s session state → txn_of session.work ≡ Some txn → IsOpenAt state s txn
stands_open state s txn session is stands = go session.work refl stands
  where
    go : (work : Option Work) → session.work ≡ work → txn_of work ≡ Some txn → IsOpenAt state s txn
    go (Some work) work_is stands = record { session = session; work = work; has_work = record { session_is = is; work_is = work_is }; mine = cc }
    go None work_is stands = cc

pub open_stands : (state : WorldState) (s txn : ℕ) (session : Session) → IsSession s session state → IsOpenAt state s txn → txn_of session.work ≡ Some txn
open_stands state s txn session is open_at =
    let same : Some session ≡ Some open_at.session = sym is ∙ open_at.has_work.session_is in
    let mine = open_at.mine in
    let work = open_at.has_work.work_is in
    cc

-- an open transaction is that of a session that has joined
pub open_within : (state : WorldState) (s txn : ℕ) → IsOpenAt state s txn → s < length state.sessions
open_within state s txn open_at = slice_get_within state.sessions s open_at.session open_at.has_work.session_is

pub session_there : (state : WorldState) (s : ℕ) → s < length state.sessions → (session : Session) × IsSession s session state
session_there state s within =
    elim ((slice_get_cases state.sessions s).1) [
      | inl there ↦ (there.0, there.2)
      | inr past ↦ absurd (omega (arith, within, past.0))
    ]

pub at_or_before : (k n : ℕ) → k < n + 1 → (k < n) ⊎ (k ≡ n)
at_or_before k n below = elim (cases_eq k n) [ inl same ↦ inr same | inr other ↦ inl (omega (arith, below, other)) ]

-- how a comparison with a number that is there comes out
pub same_number : (found : Option ℕ) (txn : ℕ) → option_eq eqb found (Some txn) ≡ true → found ≡ Some txn
same_number None txn same = absurd (false≢true same)
same_number (Some own) txn same = ap Some (eqb-true own txn same)

pub other_number : (found : Option ℕ) (txn : ℕ) → option_eq eqb found (Some txn) ≡ false → found ≡ Some txn → ⊥
other_number None txn differs is = cc
other_number (Some own) txn differs is = false≢true (sym differs ∙ eq-eqb own txn (same_Some own txn is))
