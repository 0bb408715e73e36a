-- What an item that has done little leaves as it was, and what entries make of an item.
use Rattle.std.proofs.Common.{◌≡◌, ℕ, Bool, false, List, [], ◌∷◌, refl, sym, ap, ◌∙◌, arith}
use Rattle.std.proofs.lemmas.Bool.Decides.{nat_tests}
use Rattle.std.proofs.lemmas.Bool.{false≢true}
use Rattle.std.specs.Prelude.{is_some}
use Rattle.std.specs.List.{list_any}
use Rattle.inno_model.specs.declared.event.Event.{Event}
use Rattle.inno_model.specs.declared.event.Event.TheVariants as events
use Rattle.inno_model.specs.Past.{of_item, did, closes, commits_txn, rolls_back_txn, awaits_ack, IsOpen, IsClosed}
use Rattle.sql_history.specs.Items.{is_over, undoes}
use Rattle.sql_history.specs.Waiting.{is_victim}
use Rattle.read_statement.specs.Running.{strays}

-- ---- what an item that has only begun has not done

none_such : (test other : Event → Bool) → ((e : Event) → other e ≡ false → test e ≡ false) → (es : List Event) → list_any other es ≡ false
    → list_any test es ≡ false
none_such test other so [] none = refl
none_such test other so (e ∷ es) none = grind (arith, nat_tests, so e, none_such test other so es, none)

module _ (s : ℕ) (h : List Event) (goes-on : did strays s h ≡ false) where
  closes_strays : (e : Event) → strays e ≡ false → closes e ≡ false
  closes_strays (events.Begin t n l) is = refl
  closes_strays (events.View t) is = refl
  closes_strays e is = cc

  pub none_closed : did closes s h ≡ false
  none_closed = none_such closes strays closes_strays (of_item s h) goes-on

  commits_strays : (e : Event) → strays e ≡ false → commits_txn e ≡ false
  commits_strays (events.Committed t) is = cc
  commits_strays e is = refl

  pub none_committed : did commits_txn s h ≡ false
  none_committed = none_such commits_txn strays commits_strays (of_item s h) goes-on

  rolls_strays : (e : Event) → strays e ≡ false → rolls_back_txn e ≡ false
  rolls_strays (events.RolledBack t) is = cc
  rolls_strays e is = refl

  pub none_rolled : did rolls_back_txn s h ≡ false
  none_rolled = none_such rolls_back_txn strays rolls_strays (of_item s h) goes-on

  undoes_strays : (e : Event) → strays e ≡ false → undoes e ≡ false
  undoes_strays (events.Undone t keep) is = cc
  undoes_strays e is = refl

  pub none_undone : did undoes s h ≡ false
  none_undone = none_such undoes strays undoes_strays (of_item s h) goes-on

  victim_strays : (e : Event) → strays e ≡ false → is_victim e ≡ false
  victim_strays (events.Victim t cycle) is = cc
  victim_strays e is = refl

  pub no_victim : did is_victim s h ≡ false
  no_victim = none_such is_victim strays victim_strays (of_item s h) goes-on

acked_by : (es : List Event) → list_any closes es ≡ false → awaits_ack es ≡ false
acked_by [] on = refl
acked_by (events.Committed t ∷ es) on = cc
acked_by (e ∷ es) on = refl

pub acked_of_on : (s : ℕ) (h : List Event) → did closes s h ≡ false → awaits_ack (of_item s h) ≡ false
acked_of_on s h on = acked_by (of_item s h) on

-- its turn is a part of the item
pub turn_goes_on : (s : ℕ) (h : List Event) → did closes s h ≡ false → is_over s h ≡ false
turn_goes_on s [] on = refl
turn_goes_on s (events.Started t j item ∷ h) on = grind (arith, nat_tests, turn_goes_on s h, on)
turn_goes_on s (events.Begin t n l ∷ h) on = grind (arith, nat_tests, turn_goes_on s h, on)
turn_goes_on s (e ∷ h) on = grind (arith, nat_tests, turn_goes_on s h, on)

pub not_closed : (s : ℕ) (h : List Event) → IsOpen s h → IsClosed s h → ⊥
not_closed s h is-open closed = false≢true (sym (ap is_some closed) ∙ is-open)
