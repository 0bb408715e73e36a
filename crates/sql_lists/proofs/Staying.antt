-- What an entry of another session, or one's own within an item, leaves as it was: for the definitions of SQL's histories.
use Rattle.std.proofs.Common.{◌≡◌, ◌≢◌, ℕ, ◌+◌, ◌≤◌, Bool, true, false, cond, eqb, List, [], ◌∷◌, refl, ap, arith}
use Rattle.std.proofs.lemmas.Bool.Decides.{nat_tests}
use Rattle.std.specs.List.{list_any}
use Rattle.inno_model.specs.declared.event.Event.{Event}
use Rattle.inno_model.specs.declared.event.Event.TheVariants as events
use Rattle.inno_model.specs.Past.{is_of, under_way, before_item, closes, own, commits, committed, opening}
use Rattle.inno_model.specs.Moments.{starts}
use Rattle.sql_history.specs.Items.{of_turn, is_over, point, before_turn, own_before}
use Rattle.law_past_agreement.specs.Order.{IsNoOthers}

-- an entry of one session is no other's
pub own_of : (e : Event) (t u : ℕ) → is_of t e ≡ true → u ≢ t → is_of u e ≡ false
own_of e t u mine differ = grind (arith, nat_tests, mine, differ)

pub other_of : (e : Event) (t u : ℕ) → IsNoOthers t e → u ≢ t → is_of u e ≡ false
other_of (events.Signal name) t u mine differ = refl
other_of e t u mine differ = own_of e t u mine differ

pub not_starting : (e : Event) (u : ℕ) → is_of u e ≡ false → starts u e ≡ false
not_starting (events.Started t j item) u other = other
not_starting e u other = refl

pub opening_stays : (e : Event) (h : List Event) (t : ℕ) → IsNoOthers t e → opening (e ∷ h) ≡ opening h
opening_stays (events.Opened db) h t mine = cc
opening_stays e h t mine = refl

-- ---- entries of others

-- what is a session's own by the definitions of SQL's histories
pub record StaysAtWork (old new : List Event) (s : ℕ) : Type 0 where
  pub entries : of_turn s new ≡ of_turn s old
  pub before : before_turn s new ≡ before_turn s old
  pub over : is_over s new ≡ is_over s old
  pub own_is : own_before s new ≡ own_before s old

pub at_work : (e : Event) (h : List Event) (s : ℕ) → is_of s e ≡ false → StaysAtWork h (e ∷ h) s
at_work e h s other =
    let entries : of_turn s (e ∷ h) ≡ of_turn s h = grind (arith, nat_tests) in
    let before : before_turn s (e ∷ h) ≡ before_turn s h = grind (arith, nat_tests) in
    record { entries = entries; before = before; over = ap (list_any closes) entries; own_is = ap (own s) before }

-- while the item has not come to the end of its changes its point is now
pub point_now : (h : List Event) (s : ℕ) → is_over s h ≡ false → point s h ≡ h
point_now [] s goes = refl
point_now (e ∷ h) s goes = rw goes refl

-- and once it has, its point stays
pub point_stays : (e : Event) (h : List Event) (s : ℕ) → is_over s h ≡ true → is_over s (e ∷ h) ≡ true → point s (e ∷ h) ≡ point s h
point_stays e h s was is = rw is (rw was refl)

-- the point is just before the entry by which it comes there
pub point_before : (e : Event) (h : List Event) (s : ℕ) → is_over s h ≡ false → is_over s (e ∷ h) ≡ true → point s (e ∷ h) ≡ h
point_before e h s was is = rw is (rw was refl)

-- ---- what the item asks for

-- the entry neither starts nor ends an item of the session
abbrev pub is_within : ℕ → Event → Bool
is_within s (events.Started t j item) = cond (eqb t s) false true
is_within s (events.Ended t j reply) = cond (eqb t s) false true
is_within s other = true

module _ (e : Event) (h : List Event) (s : ℕ) (within : is_within s e ≡ true) where
  pub item_within : under_way s (e ∷ h) ≡ under_way s h
  item_within = grind (arith, nat_tests, within)

  pub before_within : before_item s (e ∷ h) ≡ before_item s h
  before_within = grind (arith, nat_tests, within)

  pub starts_not : starts s e ≡ false
  starts_not = grind (arith, nat_tests, within)

pub within_of_other : (e : Event) (s : ℕ) → is_of s e ≡ false → is_within s e ≡ true
within_of_other e s other = grind (arith, nat_tests, other)

-- more commits than there are give no more changes
pub committed_more : (n : ℕ) (h : List Event) → commits h ≤ n → committed n h ≡ committed (commits h) h
committed_more n [] le = refl
committed_more n (events.Committed t ∷ h) le =
    grind (arith, nat_tests, committed_more n h (omega (arith, le)), committed_more (commits h + 1) h (omega arith))
committed_more n (e ∷ h) le = committed_more n h le
