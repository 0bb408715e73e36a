-- The numbers and ids of transactions in an ordered past.
use Rattle.std.proofs.Common.{◌≡◌, ℕ, ◌<◌, ◌≤◌, true, false, None, List, [], ◌∷◌, length, arith}
use Rattle.std.proofs.lemmas.Bool.Decides.{nat_tests}
use Rattle.std.proofs.lemmas.Bool.{false≢true, false_from_ne_true}
use Rattle.inno_model.specs.declared.event.Event.{Event}
use Rattle.inno_model.specs.Past.{level, txn, own, begins, IsOpen}
use Rattle.law_past_agreement.specs.{Order.MayCome, Order.IsOrdered, Ids.given, Ids.id_of, Ids.is_among}

pub record AreIds (h : List Event) : Type 0 where
  pub numbered : (s : ℕ) → txn s h ≤ begins h
  pub one_number : (s t : ℕ) → IsOpen s h → IsOpen t h → txn s h ≡ txn t h → s ≡ t
  pub below : (s : ℕ) → id_of h s ≤ given h
  pub among_below : (n id : ℕ) → is_among h n id ≡ true → id ≤ given h
  pub among_some : (n : ℕ) → is_among h n 0 ≡ false
  -- a transaction is open or committed, and not both
  pub open_not_among : (s n : ℕ) → IsOpen s h → is_among h n (id_of h s) ≡ false
  pub distinct : (s t : ℕ) → IsOpen s h → IsOpen t h → 0 < id_of h s → id_of h s ≡ id_of h t → s ≡ t
  pub no_id : (s : ℕ) → id_of h s ≡ 0 → own s h ≡ []
  pub closed : (s : ℕ) → level s h ≡ None → own s h ≡ []

-- no id that is committed is 0
pub among_positive : (h : List Event) (n id : ℕ) → is_among h n id ≡ true → 0 < id
among_positive [] n id is = absurd (false≢true is)
among_positive (e ∷ h) n id is = grind (arith, nat_tests, among_positive h n id, is)

-- a later id is new
pub later_not_among : (h : List Event) → AreIds h → (n id : ℕ) → given h < id → is_among h n id ≡ false
later_not_among h ids n id lt = false_from_ne_true (is_among h n id) (λ is. omega (arith, ids.among_below n id is))

-- One more entry keeps it.
step : (e : Event) (h : List Event) → MayCome h e → AreIds h → AreIds (e ∷ h)
step e h may ids = grind (arith, nat_tests, ids, may, later_not_among h ids)

pub ids_of : (h : List Event) → IsOrdered h → AreIds h
ids_of [] ordered = grind arith
ids_of (e ∷ h) ordered = step e h ordered.0 (ids_of h ordered.1)

-- There are no more ids than entries.
pub given_few : (h : List Event) → given h ≤ length h
given_few [] = omega arith
given_few (e ∷ h) = grind (arith, nat_tests, given_few h)
