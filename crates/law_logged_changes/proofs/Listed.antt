-- An open transaction is listed where the world agrees with its past.
use Rattle.std.proofs.Common.{◌≡◌, ℕ, ◌+◌, ◌^◌, ◌<◌, ap, arith}
use Rattle.std.specs.Prelude.{is_some}
use Rattle.txn_table.specs.Txns.{Txns}
use Rattle.row_versions.specs.Chains.{Chains}
use Rattle.law_past_agreement.specs.Ids.{given}
use Rattle.law_past_agreement.proofs.{Ids.ids_of, Ids.given_few, Opens.opens_of}
use Rattle.world.specs.State.{WorldState, Session, Work, HasWork}
use Rattle.law_world_agreement.specs.Agreement.{Agrees}
use Rattle.law_world_agreement.proofs.Ending.{work_of, one_session_of}
use Rattle.row_changes.specs.{Records.IsListed}

module _ (chains : Chains) (state : WorldState) (s : ℕ) (session : Session) (work : Work) (agrees : Agrees chains state)
    (has : HasWork s session work state) where
  pub listed_of : IsListed s work state
  listed_of =
      let mine = work_of chains state s session work agrees has in
      let found = (opens_of state.past agrees.lists.ordered).there s (ap is_some mine.level_is) in
      let open_txns = ap (λ (t : Txns). t.open_txns) agrees.lists.txns_are in
      let next : state.txns.next ≡ given state.past + 1 = ap (λ (t : Txns). t.next) agrees.lists.txns_are in
      record {
        there = rw (open_txns, ← mine.txn_is) found.0;
        id = rw (open_txns, ← mine.txn_is, ← mine.id_is) found.1;
        few = omega (arith, next, given_few state.past, agrees.lists.small);
        alone = λ t other also theirs same. one_session_of chains state s t session other work also agrees has theirs same;
      }

  pub small_of : work.id < 2 ^ 64
  small_of =
      let mine = work_of chains state s session work agrees has in
      omega (arith, mine.id_is, (ids_of state.past agrees.lists.ordered).below s, given_few state.past, agrees.lists.small)
