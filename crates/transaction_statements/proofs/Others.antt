-- An entry of another session leaves what a statement knows.
use Rattle.std.proofs.Common.{◌≡◌, ◌≢◌, ℕ, Bool, true, false, None, List, ◌∷◌, sym, ap, subst, ◌∙◌, inl, inr, length}
use Rattle.std.specs.Prelude.{is_some}
use Rattle.std.specs.List.{AllByRecursion, list_any}
use Rattle.inno_types.specs.declared.stmt.Stmt.{Stmt}
use Rattle.inno_types.specs.declared.stmt.Stmt.TheVariants as stmt
use Rattle.inno_model.specs.declared.event.Event.{Event}
use Rattle.inno_model.specs.Past.{is_of, under_way, of_item, did, begins_txn, takes_view, commits_txn, rolls_back_txn, level, own, oldest, awaits_ack, IsClosed}
use Rattle.inno_model.proofs.Untouched.{IsUntouched, untouched}
use Rattle.sql_grammar.specs.Grammar.{Spells}
use Rattle.sql_history.specs.Settings.{Setting, HasSet}
use Rattle.sql_history.specs.Endings.{StaysIn}
use Rattle.law_past_agreement.specs.Order.{IsOfRow}
use Rattle.shared_lists.specs.State.{State, task_of}
use Rattle.sql_lists.specs.Kept.{SetsQuietly}
use Rattle.sql_lists.specs.Steps.{StaysRunning, HasRowsAlone}
use Rattle.sql_lists.proofs.Moving.{AddingOne, stays_running}
use Rattle.sql_lists.proofs.Staying.{other_of}
use Rattle.transaction_statements.specs.declared.statement.TransactionStatement.{TransactionStatement}
use Rattle.transaction_statements.specs.declared.statement.TransactionStatement.TheVariants as statements
use Rattle.transaction_statements.specs.Committing.{stmt_of, Fits, SetsAlone, set_by}
use Rattle.transaction_statements.specs.Knowing.{IsAt, HasOpened, SavesIn, IsGoingBack, IsMissing}
use Rattle.transaction_statements.specs.Running.{RunsBy, HasTask, IsRunning}
use Rattle.giving_up.proofs.Ends.{Spares, spares_other, none_made, emptied_on, gives_up_on}
use Rattle.transaction_statements.proofs.Staying.{at_spared}

module _ (e : Event) (h : List Event) (s : ℕ) (other : is_of s e ≡ false) where
  same : IsUntouched h (e ∷ h) s
  same = untouched e h s other

  spared : Spares e h s
  spared = spares_other e h s other

  did_same : (test : Event → Bool) → did test s (e ∷ h) ≡ did test s h
  did_same test = ap (list_any test) same.entries

  acks : awaits_ack (of_item s (e ∷ h)) ≡ awaits_ack (of_item s h)
  acks = ap awaits_ack same.entries

  rows_on : HasRowsAlone s h → HasRowsAlone s (e ∷ h)
  rows_on rows = subst (AllByRecursion IsOfRow) (sym same.own_is) rows

  at_other : (statement : Stmt) (Knows : Setting → Type 0) → IsAt s statement Knows h → IsAt s statement Knows (e ∷ h)
  at_other = at_spared e h s spared

  opened_on : HasOpened s h → HasOpened s (e ∷ h)
  opened_on o =
      record {
        is_open = ap is_some same.level_is ∙ o.is_open;
        begun = did_same begins_txn ∙ o.begun;
        not_rolled_back = did_same rolls_back_txn ∙ o.not_rolled_back;
        new = same.own_is ∙ o.new;
        acked = acks ∙ o.acked;
        made = none_made e h s spared o.made;
      }

  saves_on : (opened : Bool) → SavesIn opened s h → SavesIn opened s (e ∷ h)
  saves_on false saves = (same.entries ∙ saves.0, ap is_some same.level_is ∙ saves.1)
  saves_on true saves = (opened_on saves.0, subst (IsClosed s) (sym same.before) saves.1, ap (own s) same.before ∙ saves.2, did_same commits_txn ∙ saves.3)

  stays_on : StaysIn s h → StaysIn s (e ∷ h)
  stays_on stays =
      record {
        stays = same.level_is ∙ (stays.stays ∙ ap (level s) (sym same.before));
        not_begun = did_same begins_txn ∙ stays.not_begun;
        not_committed = did_same commits_txn ∙ stays.not_committed;
        not_rolled_back = did_same rolls_back_txn ∙ stays.not_rolled_back;
      }

  back_on : (made : ℕ) → IsGoingBack s made h → IsGoingBack s made (e ∷ h)
  back_on made back =
      record {
        stays = stays_on back.stays;
        keeps = ap (oldest made) same.own_is ∙ (back.keeps ∙ ap (λ g. oldest made (own s g)) (sym same.before));
        acked = acks ∙ back.acked;
      }

  missing_on : (name : List ℕ) → IsMissing s name h → IsMissing s name (e ∷ h)
  missing_on name m =
      record {
        asks = (m.asks.0, same.item ∙ m.asks.1, m.asks.2);
        setting = m.setting;
        is_set = subst (λ g. HasSet Spells s g m.setting) (sym same.before) m.is_set;
        missing = m.missing;
        nothing = same.entries ∙ m.nothing;
        rows_alone = rows_on m.rows_alone;
      }

  quiet_on : (statement : Stmt) → SetsQuietly statement s h → SetsQuietly statement s (e ∷ h)
  quiet_on (stmt.Savepoint name) quiet = same.level_is ∙ quiet
  quiet_on statement quiet = tt

  runs_on : (m : TransactionStatement) → RunsBy h s m → RunsBy (e ∷ h) s m
  runs_on (statements.Quiet setter) r = (at_other (set_by setter) (SetsAlone (set_by setter)) r.0, same.entries ∙ r.1, quiet_on (set_by setter) r.2)
  runs_on (statements.Missing name) r = missing_on name r
  runs_on (statements.Committing c) r = (at_other (stmt_of c) (Fits c) r.0, same.entries ∙ r.1)
  runs_on (statements.Unacked c) r = (at_other (stmt_of c) (Fits c) r.0, emptied_on e h s spared r.1, acks ∙ r.2)
  runs_on (statements.Closed c) r = (at_other (stmt_of c) (Fits c) r.0, emptied_on e h s spared r.1, acks ∙ r.2)
  runs_on statements.Viewing r = (at_other _ _ r.0, opened_on r.1, same.level_is ∙ r.2, same.view_is ∙ r.3)
  runs_on statements.Unviewed r = (at_other _ _ r.0, opened_on r.1)
  runs_on (statements.Begun snapshot) r = (at_other _ _ r.0, opened_on r.1, λ is level. did_same takes_view ∙ r.2 is (sym same.level_is ∙ level))
  runs_on statements.Rollback r = (at_other _ _ r.0, did_same commits_txn ∙ r.1, acks ∙ r.2)
  runs_on (statements.RollbackTo name made) r = (at_other _ _ r.0, back_on made r.1)
  runs_on (statements.Opening name l) r = (at_other _ _ r.0, same.entries ∙ r.1, same.level_is ∙ r.2, same.own_is ∙ r.3)
  runs_on (statements.Saving name opened) r = (at_other _ _ r.0, saves_on opened r.1)
  runs_on statements.Failed r = gives_up_on e h s spared r
  runs_on statements.Ended r = absurd r

stays_by_one : (old new : State) (t s : ℕ) (m : TransactionStatement) → t ≢ s → AddingOne t old new → task_of s new ≡ task_of s old → IsRunning old s m
    → IsRunning new s m
stays_by_one old new t s m differ adding same_task r =
    elim adding [
      | inl same_past ↦ at_past old.past same_past r.0 r.1
      | inr added ↦ (let other : is_of s added.0 ≡ false = other_of added.0 t s added.1 (λ is. differ (sym is)) in at_past (added.0 ∷ old.past) added.2
          (runs_on added.0 old.past s other m r.0) (subst (λ changes. HasTask m (length changes) (task_of s old))
          (sym (same added.0 old.past s other).own_is) r.1))
    ] where
      at_past : (past : List Event) → new.past ≡ past → RunsBy past s m → HasTask m (length (own s past)) (task_of s old) → IsRunning new s m
      at_past past past-is runs has =
          subst (λ h. RunsBy h s m × HasTask m (length (own s h)) (task_of s new)) (sym past-is)
          (runs, subst (HasTask m (length (own s past))) (sym same_task) has)

pub stays : StaysRunning IsRunning
stays = stays_running IsRunning (λ old new t s m differ adding keeps same_task r. stays_by_one old new t s m differ adding same_task r)

-- a running statement has an item under way
pub has_item : (state : State) (s : ℕ) (m : TransactionStatement) → IsRunning state s m → under_way s state.past ≢ None
has_item state s (statements.Quiet setter) r none = (let x = r.0.0.takes.asks.1 in cc)
has_item state s (statements.Missing name) r none = (let x = r.0.asks.1 in cc)
has_item state s (statements.Committing c) r none = (let x = r.0.0.takes.asks.1 in cc)
has_item state s (statements.Unacked c) r none = (let x = r.0.0.takes.asks.1 in cc)
has_item state s (statements.Closed c) r none = (let x = r.0.0.takes.asks.1 in cc)
has_item state s statements.Viewing r none = (let x = r.0.0.takes.asks.1 in cc)
has_item state s statements.Unviewed r none = (let x = r.0.0.takes.asks.1 in cc)
has_item state s (statements.Begun snapshot) r none = (let x = r.0.0.takes.asks.1 in cc)
has_item state s statements.Rollback r none = (let x = r.0.0.takes.asks.1 in cc)
has_item state s (statements.RollbackTo name made) r none = (let x = r.0.0.takes.asks.1 in cc)
has_item state s (statements.Opening name l) r none = (let x = r.0.0.takes.asks.1 in cc)
has_item state s (statements.Saving name opened) r none = (let x = r.0.0.takes.asks.1 in cc)
has_item state s statements.Failed r none = (let x = r.0.item in cc)
has_item state s statements.Ended r none = absurd r.0
