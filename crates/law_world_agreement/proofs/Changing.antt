-- A row that is changed, and a table that is made.
use Rattle.std.proofs.Common.{◌≡◌, ◌≢◌, ℕ, ◌+◌, ◌<◌, ◌^◌, true, false, List, [], ◌∷◌, ◌++◌, length, option_map, is_some, Some, sym, ap, ◌∙◌, refl, arith}
use Rattle.std.specs.List.{list_any}
use Rattle.std.proofs.lemmas.Bool.Decides.{nat_tests}
use Rattle.inno_types.specs.declared.value.Schema.{Schema}
use Rattle.inno_db.specs.{declared.change.Change.Change, declared.change.Change.TheVariants.Create}
use Rattle.inno_model.specs.{declared.event.Event.Event, declared.event.Event.TheVariants.Changed, Past.IsOpen, Past.own}
use Rattle.row_versions.specs.{declared.place.Place.Place, Chains.Chains, Chains.Pushes, Chains.versions_at}
use Rattle.law_past_agreement.specs.{Slots.id_for, Ids.id_of, Ids.txns_of, Rows.place_in, Rows.is_at, Rows.row_of, Rows.row_opened}
use Rattle.law_past_agreement.specs.{Order.created, Order.IsOfRow, Order.IsTabled, Agreement.AreVersions}
use Rattle.law_past_agreement.proofs.{Ids.ids_of, Agree.rows_created, Rows.rows_changed, Standing.view_agrees}
use Rattle.world.specs.State.{WorldState, Session, Work, IsSession, HasWork}
use Rattle.law_world_agreement.specs.{Agreement.sight_of, Agreement.Agrees, Steps.IsChangedBy}
use Rattle.law_world_agreement.proofs.Settled.{IsKept, kept_of, rows_told, works_are, after}
use Rattle.law_world_agreement.proofs.Opening.{joined_of, mine_tells}

pub one_session : (s : ℕ) (a b : Session) (state : WorldState) → IsSession s a state → IsSession s b state → a ≡ b
one_session s a b state first second = cc

pub one_work : (s : ℕ) (a b : Session) (v w : Work) (state : WorldState) → HasWork s a v state → HasWork s b w state → v ≡ w
one_work s a b v w state first second = let p = first.session_is in let q = second.session_is in let m = first.work_is in let n = second.work_is in cc

tables_stay : (s : ℕ) (change : Change) (h : List Event) → IsOfRow change → created (Changed s change ∷ h) ≡ created h
tables_stay s change h of-row = grind (arith, of-row)

module _ {chains : Chains} {old new : WorldState} {s : ℕ} {change : Change} {tables : List Schema} (agrees : Agrees chains old)
    (by : IsChangedBy s change tables old new) (tabled : IsTabled (length (created old.past)) change) where
  mine : IsKept old.past s by.work
  mine = kept_of agrees by.had

  was_open : IsOpen s old.past
  was_open = ap is_some mine.level_is

  id_now : id_for by.work.id old.txns.next ≡ id_of (Changed s change ∷ old.past) s
  id_now = grind (arith, nat_tests, mine.id_is, agrees.lists.txns_are)

  txns_now : new.txns ≡ txns_of (Changed s change ∷ old.past)
  txns_now = grind (arith, nat_tests, by.txns, mine.id_is, mine.txn_is, agrees.lists.txns_are)

  -- what is kept of the transaction has one change more
  kept_now : IsKept (Changed s change ∷ old.past) s by.work_now
  kept_now =
      let view = view_agrees (Changed s change) old.past s (was_open, tabled) (ids_of old.past agrees.lists.ordered)
      (λ id some same. grind (arith, nat_tests, some, same)) refl (option_map sight_of by.work.view) mine.view_is in
      grind (arith, nat_tests, mine, by.more, id_now, view)

  pub changes : {chains' : Chains} → length old.past + 1 < 2 ^ 63
      → new.schemas ≡ created (Changed s change ∷ old.past)
      → ((place : Place) → AreVersions (Changed s change ∷ old.past) (row_opened old.past place) (is_at new.schemas place) (versions_at place chains'))
      → Agrees chains' new
  changes few tables-are rows =
      after agrees (Changed s change) s (mine_tells s) (was_open, tabled) few (joined_of agrees by.had.session_is)
      (record { past = by.past; names = by.names; count = by.count; others = λ u differs. ap (option_map (λ (x : Session). x.work)) (by.others u differs) })
      tables-are txns_now (Some by.work_now) (works_are by.has) kept_now rows

-- No other session has changes of the place.
pub changed_agrees : (chains chains' : Chains) (old new : WorldState) (s : ℕ) (change : Change) (place : Place) → Agrees chains old
    → ((p : Place) → is_at old.schemas p change ≡ true → (u : ℕ) → u ≢ s → list_any (is_at old.schemas p) (own u old.past) ≡ false)
    → IsOfRow change → place_in old.schemas change ≡ Some place → IsTabled (length old.schemas) change
    → (by : IsChangedBy s change old.schemas old new) → Pushes chains chains' place
    (record { writer = id_for by.work.id old.txns.next; row = row_of change }) → length old.past + 1 < 2 ^ 63 → Agrees chains' new
changed_agrees chains chains' old new s change place agrees alone of_row place_is tabled by pushes few =
    let told : IsTabled (length (created old.past)) change = rw (← agrees.lists.tables) tabled in
    changes agrees by told few (by.schemas ∙ (agrees.lists.tables ∙ sym (tables_stay s change old.past of_row)))
    (λ p. rw by.schemas (rows_changed (row_opened old.past p) (is_at old.schemas p) s change old.past (ids_of old.past agrees.lists.ordered)
    (alone p) (grind (arith, pushes p, place_is, id_now agrees by told)) (agrees.lists.rows p)))

pub created_agrees : (chains : Chains) (old new : WorldState) (s : ℕ) (schema : Schema) → Agrees chains old
    → (by : IsChangedBy s (Create schema) (old.schemas ++ schema ∷ []) old new) → length old.past + 1 < 2 ^ 63 → Agrees chains new
created_agrees chains old new s schema agrees by few =
    let more : new.schemas ≡ created old.past ++ schema ∷ [] = by.schemas ∙ ap (λ (ts : List Schema). ts ++ schema ∷ []) agrees.lists.tables in
    changes agrees by tt few more
    (λ p. rw more (rows_created old.past agrees.lists.ordered s schema p (rows_told agrees p)))
