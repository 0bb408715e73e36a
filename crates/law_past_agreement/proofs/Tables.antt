-- Changes of an ordered past are of tables that have been made, and a table more leaves their places.
use Rattle.std.proofs.Common.{◌≡◌, ℕ, ◌<◌, ◌≤◌, List, [], ◌∷◌, ◌++◌, length, drop, refl, zero, suc, arith}
use Rattle.std.proofs.lemmas.List.{length-append}
use Rattle.std.proofs.lemmas.Bool.Decides.{nat_tests}
use Rattle.std.specs.List.{AllByRecursion}
use Rattle.inno_types.specs.{declared.value.Schema.Schema, declared.value.Value.Value}
use Rattle.inno_db.specs.{Database.key_in, declared.change.Change.Change}
use Rattle.inno_model.specs.declared.event.Event.{Event}
use Rattle.inno_model.specs.Past.{own, committed}
use Rattle.row_versions.specs.declared.place.Place.{Place}
use Rattle.law_past_agreement.specs.{Order.created, Order.IsTabled, Order.MayCome, Order.IsOrdered, Rows.is_at}
use Rattle.law_past_agreement.proofs.Opens.{all_weaker}

-- ---- what a table more leaves

tabled_more : (m n : ℕ) → m ≤ n → (change : Change) → IsTabled m change → IsTabled n change
tabled_more m n le change is = grind (arith, le, is)

pub key_stays : (schemas more : List Schema) (table : ℕ) (row : List Value) → table < length schemas
    → key_in (schemas ++ more) table row ≡ key_in schemas table row
key_stays [] more table row lt = absurd (omega (arith, lt))
key_stays (schema ∷ schemas) more zero row lt = refl
key_stays (schema ∷ schemas) more (suc table) row lt = key_stays schemas more table row (omega (arith, lt))

pub at_stays : (schemas more : List Schema) (place : Place) (change : Change) → IsTabled (length schemas) change
    → is_at (schemas ++ more) place change ≡ is_at schemas place change
at_stays schemas more place change is = grind (arith, key_stays schemas more, is)

-- ---- in an ordered past

all_dropped : (P : Change → Type 0) (n : ℕ) (changes : List Change) → AllByRecursion P changes → AllByRecursion P (drop n changes)
all_dropped P zero changes all = all
all_dropped P (suc n) [] all = tt
all_dropped P (suc n) (change ∷ changes) all = all_dropped P n changes all.1

pub all_joined : (P : Change → Type 0) (xs ys : List Change) → AllByRecursion P xs → AllByRecursion P ys → AllByRecursion P (xs ++ ys)
all_joined P [] ys all other = other
all_joined P (x ∷ xs) ys all other = (all.0, all_joined P xs ys all.1 other)

created_rise : (e : Event) (h : List Event) → MayCome h e → length (created h) ≤ length (created (e ∷ h))
created_rise e h may = grind (arith, length-append {A = Schema}, may)

abbrev AreTabled : List Event → List Change → Type 0
AreTabled h = AllByRecursion (IsTabled (length (created h)))

risen : (e : Event) (h : List Event) → MayCome h e → (changes : List Change) → AreTabled h changes → AreTabled (e ∷ h) changes
risen e h may =
    all_weaker (IsTabled (length (created h))) (IsTabled (length (created (e ∷ h))))
    (tabled_more (length (created h)) (length (created (e ∷ h))) (created_rise e h may))

-- each change of an open transaction
own_step : (e : Event) (h : List Event) (s : ℕ) → MayCome h e → AreTabled h (own s h) → AreTabled h (own s (e ∷ h))
own_step e h s may all = grind (arith, nat_tests, all_dropped (IsTabled (length (created h))), may, all)

pub own_tabled : (h : List Event) → IsOrdered h → (s : ℕ) → AllByRecursion (IsTabled (length (created h))) (own s h)
own_tabled [] ordered s = tt
own_tabled (e ∷ h) ordered s = risen e h ordered.0 (own s (e ∷ h)) (own_step e h s ordered.0 (own_tabled h ordered.1 s))

-- each change that was committed
committed_step : (e : Event) (h : List Event) (n : ℕ) → ((s : ℕ) → AreTabled h (own s h)) → AreTabled h (committed n h) → AreTabled h (committed n (e ∷ h))
committed_step e h n owns all = grind (arith, nat_tests, all_joined (IsTabled (length (created h))), owns, all)

pub committed_tabled : (h : List Event) → IsOrdered h → (n : ℕ) → AllByRecursion (IsTabled (length (created h))) (committed n h)
committed_tabled [] ordered n = tt
committed_tabled (e ∷ h) ordered n = risen e h ordered.0 (committed n (e ∷ h)) (committed_step e h n (own_tabled h ordered.1) (committed_tabled h ordered.1 n))
