-- An entry of another session leaves what a CREATE TABLE knows.
use Rattle.std.proofs.Common.{◌≡◌, ◌≢◌, ℕ, true, false, None, List, [], ◌∷◌, sym, ap, subst, ◌∙◌, inl, inr}
use Rattle.std.specs.List.{AllByRecursion}
use Rattle.inno_types.specs.declared.stmt.Stmt.{Stmt}
use Rattle.inno_model.specs.declared.event.Event.{Event}
use Rattle.inno_model.specs.Past.{is_of, under_way, of_item, awaits_ack}
use Rattle.inno_model.proofs.Untouched.{untouched}
use Rattle.law_past_agreement.specs.Order.{IsOfRow, IsNoOthers}
use Rattle.shared_lists.specs.State.{State}
use Rattle.sql_lists.specs.Steps.{HasRowsAlone, StaysRunning}
use Rattle.sql_lists.proofs.Moving.{StaysByOne, stays_running}
use Rattle.sql_lists.proofs.Staying.{other_of}
use Rattle.giving_up.specs.Ends.{IsEmptied, IsGivingUp}
use Rattle.giving_up.proofs.Ends.{Spares, spares_other, emptied_on, gives_up_on}
use Rattle.create_statement.specs.declared.machine.CreateStatement.{CreateStatement}
use Rattle.create_statement.specs.declared.machine.CreateStatement.TheVariants as machine
use Rattle.create_statement.specs.Knowing.{IsAt, IsToBegin, IsCommitted}
use Rattle.create_statement.specs.Running.{RunsBy, IsRunning}
use Rattle.create_statement.proofs.Staying.{to_begin_spared, committed_spared}

module _ (old new : State) (t s : ℕ) (differ : t ≢ s) (e : Event) (mine : IsNoOthers t e) (adds : new.past ≡ e ∷ old.past) where
  other : is_of s e ≡ false
  other = other_of e t s mine (λ is. differ (sym is))

  spared : Spares e old.past s
  spared = spares_other e old.past s other

  entries : of_item s (e ∷ old.past) ≡ of_item s old.past
  entries = (untouched e old.past s other).entries

  at_past : (P : List Event → Type 0) → P (e ∷ old.past) → P new.past
  at_past P here = subst P (sym adds) here

  adds_on : (m : CreateStatement) → RunsBy old s m → RunsBy new s m
  adds_on (machine.Asked statement l) r =
      at_past (λ h. IsToBegin s statement l h × (of_item s h ≡ []) × HasRowsAlone s h) (
        to_begin_spared e old.past s spared statement l r.0,
        entries ∙ r.1,
        subst (AllByRecursion IsOfRow) (sym spared.own_is) r.2,
      )
  adds_on (machine.Unacked statement l) r =
      at_past (λ h. IsToBegin s statement l h × IsEmptied s h × (awaits_ack (of_item s h) ≡ true))
      (to_begin_spared e old.past s spared statement l r.0, emptied_on e old.past s spared r.1, ap awaits_ack entries ∙ r.2)
  adds_on (machine.Closed statement l) r =
      at_past (λ h. IsToBegin s statement l h × IsEmptied s h × (awaits_ack (of_item s h) ≡ false))
      (to_begin_spared e old.past s spared statement l r.0, emptied_on e old.past s spared r.1, ap awaits_ack entries ∙ r.2)
  adds_on (machine.Committed statement) r =
      at_past (λ h. IsCommitted s statement h × (awaits_ack (of_item s h) ≡ true))
      (committed_spared e old.past s spared statement r.0, ap awaits_ack entries ∙ r.1)
  adds_on (machine.Ending statement) r =
      at_past (λ h. IsCommitted s statement h × (awaits_ack (of_item s h) ≡ false))
      (committed_spared e old.past s spared statement r.0, ap awaits_ack entries ∙ r.1)
  adds_on machine.Failed r = at_past (IsGivingUp s) (gives_up_on e old.past s spared r)
  adds_on machine.Ended r = absurd r

-- the past is the same
module _ (old new : State) (s : ℕ) (same_past : new.past ≡ old.past) where
  as_before : (P : List Event → Type 0) → P old.past → P new.past
  as_before P here = subst P (sym same_past) here

  same_on : (m : CreateStatement) → RunsBy old s m → RunsBy new s m
  same_on (machine.Asked statement l) r = as_before (λ h. IsToBegin s statement l h × (of_item s h ≡ []) × HasRowsAlone s h) r
  same_on (machine.Unacked statement l) r = as_before (λ h. IsToBegin s statement l h × IsEmptied s h × (awaits_ack (of_item s h) ≡ true)) r
  same_on (machine.Closed statement l) r = as_before (λ h. IsToBegin s statement l h × IsEmptied s h × (awaits_ack (of_item s h) ≡ false)) r
  same_on (machine.Committed statement) r = as_before (λ h. IsCommitted s statement h × (awaits_ack (of_item s h) ≡ true)) r
  same_on (machine.Ending statement) r = as_before (λ h. IsCommitted s statement h × (awaits_ack (of_item s h) ≡ false)) r
  same_on machine.Failed r = as_before (IsGivingUp s) r
  same_on machine.Ended r = absurd r

runs_on : StaysByOne IsRunning
runs_on old new t s m differ (inl same) keeps same_task r = (same_on old new s same m r.0, same_task ∙ r.1)
runs_on old new t s m differ (inr adds) keeps same_task r = (adds_on old new t s differ adds.0 adds.1 adds.2 m r.0, same_task ∙ r.1)

pub stays : StaysRunning IsRunning
stays = stays_running IsRunning runs_on

-- ---- its item is under way

asks_some : (s : ℕ) (statement : Stmt) (past : List Event) → IsAt s statement past → under_way s past ≢ None
asks_some s statement past at none = (let x = at.takes.asks.1 in cc)

pub has_item : (state : State) (s : ℕ) (m : CreateStatement) → IsRunning state s m → under_way s state.past ≢ None
has_item state s (machine.Asked statement l) r = asks_some s statement state.past r.0.0.at
has_item state s (machine.Unacked statement l) r = asks_some s statement state.past r.0.0.at
has_item state s (machine.Closed statement l) r = asks_some s statement state.past r.0.0.at
has_item state s (machine.Committed statement) r = asks_some s statement state.past r.0.0.at
has_item state s (machine.Ending statement) r = asks_some s statement state.past r.0.0.at
has_item state s machine.Failed r = λ none. (let x = r.0.item in cc)
has_item state s machine.Ended r = absurd r.0
