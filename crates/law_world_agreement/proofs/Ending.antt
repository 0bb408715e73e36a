-- A transaction that ends.
use Rattle.std.proofs.Common.{◌≡◌, ℕ, ◌+◌, ◌<◌, ◌^◌, [], length, map, true, is_some, Option, Some, None, inr, refl, sym, ap, subst, ◌∙◌, arith}
use Rattle.std.proofs.lemmas.Bool.Decides.{nat_tests}
use Rattle.inno_model.specs.{declared.event.Event.TheVariants.Committed, declared.event.Event.TheVariants.RolledBack, Past.own}
use Rattle.inno_model.specs.{Past.txn, Past.IsOpen}
use Rattle.row_versions.specs.{Chains.Chains}
use Rattle.sql_history.specs.Settings.{at_end}
use Rattle.world.specs.Stores.{Pages}
use Rattle.txn_table.specs.Txns.{without}
use Rattle.law_past_agreement.specs.{Ids.opens, Ids.txns_of, Rows.place_in, Rows.is_at, Rows.row_opened, Agreement.IsWorkOf}
use Rattle.law_past_agreement.proofs.{Ids.ids_of, Rows.rows_stay, Rows.rows_committed}
use Rattle.world.specs.{State.WorldState, State.Session, State.Work, State.HasWork, Endings.committed, Endings.rolled_back, Endings.IsCommitted}
use Rattle.world.specs.{Endings.IsRolledBack}
use Rattle.law_world_agreement.specs.Agreement.{work_at, Agrees}
use Rattle.law_world_agreement.proofs.{Settled.IsKept, Settled.kept_of, Settled.work_from, Settled.after}
use Rattle.law_world_agreement.proofs.Opening.{works_here, replaced, joined_of, mine_tells}

-- what is kept of a session's open transaction is what the past says
pub work_of : (chains : Chains) (state : WorldState) (s : ℕ) (session : Session) (work : Work) → Agrees chains state
    → HasWork s session work state → IsWorkOf state.schemas state.past s (work_at (map (place_in state.schemas) (own s state.past)) work)
work_of chains state s session work agrees has = work_from state.past state.schemas s (Some work) (kept_of agrees has)

-- no two sessions have a transaction of one number
pub one_session_of : (chains : Chains) (state : WorldState) (s u : ℕ) (session other : Session) (work work' : Work)
    → Agrees chains state → HasWork s session work state → HasWork u other work' state → work'.txn ≡ work.txn → u ≡ s
one_session_of chains state s u session other work work' agrees has also same =
    let mine = kept_of agrees has in
    let theirs = kept_of agrees also in
    (ids_of state.past agrees.lists.ordered).one_number u s (ap is_some theirs.level_is) (ap is_some mine.level_is) (theirs.txn_is ∙ same ∙ sym mine.txn_is)

-- The session's transaction is open no longer, whatever its other rooms are now.
module _ (chains : Chains) (old : WorldState) (s : ℕ) (session : Session) (work : Work) (agrees : Agrees chains old)
    (has : HasWork s session work old) (few : length old.past + 1 < 2 ^ 63) where
  mine : IsKept old.past s work
  mine = kept_of agrees has

  was_open : IsOpen s old.past
  was_open = ap is_some mine.level_is

  txns_now : record old.txns { open_txns = without work.txn old.txns.open_txns }
      ≡ record (txns_of old.past) { open_txns = without (txn s old.past) (opens old.past) }
  txns_now = rw (mine.txn_is, agrees.lists.txns_are) refl

  commits : (paged : Option Pages) → Agrees chains (record (committed s session work old) { paged = paged })
  commits paged =
      let x : Session = record session { can_ack = true; setting = at_end session.setting; work = None } in
      after agrees (Committed s) s (mine_tells s) was_open few (joined_of agrees has.session_is) (replaced x refl refl refl) agrees.lists.tables txns_now
      None (works_here old.sessions s session x has.session_is) (grind (arith, nat_tests))
      (λ place. rows_committed (row_opened old.past place) (is_at old.schemas place) s old.past was_open (ids_of old.past agrees.lists.ordered)
      (agrees.lists.rows place))

  rolls_back : own s old.past ≡ [] → (paged : Option Pages)
      → Agrees chains (record (rolled_back s session work old) { paged = paged })
  rolls_back none paged =
      let x : Session = record session { setting = at_end session.setting; work = None } in
      after agrees (RolledBack s) s (mine_tells s) (was_open, none) few (joined_of agrees has.session_is) (replaced x refl refl refl) agrees.lists.tables
      txns_now None (works_here old.sessions s session x has.session_is) (grind (arith, nat_tests))
      (λ place. rows_stay (row_opened old.past place) (is_at old.schemas place) (RolledBack s) old.past (λ u. inr refl)
      (λ u. grind (arith, nat_tests, none)) (λ n id. refl) (λ n. refl) (agrees.lists.rows place))

pub committed_agrees : (chains : Chains) (old new : WorldState) (s : ℕ) → Agrees chains old → IsCommitted s old new
    → length old.past + 1 < 2 ^ 63 → Agrees chains new
committed_agrees chains old new s agrees is few =
    subst (Agrees chains) (sym is.rest) (commits chains old s is.session is.work agrees is.has_work few new.paged)

pub rolled_back_agrees : (chains : Chains) (old new : WorldState) (s : ℕ) → Agrees chains old → IsRolledBack s old new
    → own s old.past ≡ [] → length old.past + 1 < 2 ^ 63 → Agrees chains new
rolled_back_agrees chains old new s agrees is none few =
    subst (Agrees chains) (sym is.rest)
    (rolls_back chains old s is.session is.work agrees is.has_work few none new.paged)
