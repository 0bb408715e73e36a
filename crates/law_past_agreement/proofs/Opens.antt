-- The open transactions that are read off an ordered past are those of its sessions.
use Rattle.std.proofs.Common.{◌≡◌, ◌≢◌, ℕ, ◌+◌, ◌<◌, true, false, List, [], ◌∷◌, ◌++◌, ◌==◌, refl, sym, ap, ◌∙◌, arith}
use Rattle.std.proofs.lemmas.Bool.Decides.{nat_tests}
use Rattle.std.proofs.lemmas.Bool.{cond_both}
use Rattle.std.specs.List.{AllByRecursion, list_any}
use Rattle.inno_model.specs.declared.event.Event.{Event}
use Rattle.inno_model.specs.declared.event.Event.TheVariants.{Begin, Changed, Committed, RolledBack}
use Rattle.inno_model.specs.Past.{txn, IsOpen}
use Rattle.law_past_agreement.specs.Order.{MayCome, IsOrdered}
use Rattle.txn_table.specs.Txns.{Entry, with_id, without, id_at, is_there, ids_of as active_of}
use Rattle.law_past_agreement.specs.Ids.{given, id_of, opens}
use Rattle.law_past_agreement.proofs.{Ids.AreIds, Ids.ids_of}

-- ---- lists of entries

there_front : (n : ℕ) (xs ys : List Entry) → is_there n xs → is_there n (xs ++ ys)
there_front n [] ys there = cc
there_front n (e ∷ xs) ys there = grind (arith, nat_tests, there_front n xs ys, there)

there_last : (xs : List Entry) (e : Entry) → is_there e.0 (xs ++ e ∷ [])
there_last [] e = grind (arith, nat_tests)
there_last (x ∷ xs) e = grind (arith, nat_tests, there_last xs e)

there_without : (n m : ℕ) (xs : List Entry) → n ≢ m → is_there n xs → is_there n (without m xs)
there_without n m [] differ there = cc
there_without n m (e ∷ xs) differ there = grind (arith, nat_tests, there_without n m xs differ, there, differ)

there_given : (n m id : ℕ) (xs : List Entry) → is_there n xs → is_there n (with_id m id xs)
there_given n m id [] there = cc
there_given n m id (e ∷ xs) there = grind (arith, nat_tests, there_given n m id xs, there)

-- where all entries of a number have the same id
there_id : (n id : ℕ) (xs : List Entry) → AllByRecursion (λ (x : Entry). x.0 ≡ n → x.1.id ≡ id) xs → is_there n xs → id_at n xs ≡ id
there_id n id [] all there = cc
there_id n id (e ∷ xs) all there = grind (arith, nat_tests, there_id n id xs all.1, all.0, there)

all_front : (P : Entry → Type 0) (xs : List Entry) (e : Entry) → AllByRecursion P xs → P e → AllByRecursion P (xs ++ e ∷ [])
all_front P [] e all here = (here, tt)
all_front P (x ∷ xs) e all here = (all.0, all_front P xs e all.1 here)

pub all_weaker : {X : Type 0} (P Q : X → Type 0) → ((x : X) → P x → Q x) → (xs : List X) → AllByRecursion P xs → AllByRecursion Q xs
all_weaker P Q f [] all = all
all_weaker P Q f (x ∷ xs) all = (f x all.0, all_weaker P Q f xs all.1)

all_without : (P Q : Entry → Type 0) (n : ℕ) → ((x : Entry) → n ≢ x.0 → P x → Q x) → (xs : List Entry) → AllByRecursion P xs → AllByRecursion Q (without n xs)
all_without P Q n f [] all = tt
all_without P Q n f (x ∷ xs) all = grind (arith, nat_tests, all_without P Q n f xs all.1, f x, all)

all_given : (P Q : Entry → Type 0) (n id : ℕ) → ((x : Entry) → n ≡ x.0 → P x → Q (x.0, record x.1 { id = id })) → ((x : Entry) → n ≢ x.0 → P x → Q x)
    → (xs : List Entry) → AllByRecursion P xs → AllByRecursion Q (with_id n id xs)
all_given P Q n id f g [] all = tt
all_given P Q n id f g (x ∷ xs) all = grind (arith, nat_tests, all_given P Q n id f g xs all.1, f x, g x, all)

-- id 0 is nobody's
pub zero_inactive : (xs : List Entry) → list_any (λ a. a == 0) (active_of xs) ≡ false
zero_inactive [] = refl
zero_inactive (x ∷ xs) = grind (arith, nat_tests, zero_inactive xs)

-- ---- in an ordered past

-- the entry is that of its session's open transaction
pub record IsEntry (h : List Event) (e : Entry) : Type 0 where
  pub is-open : IsOpen e.1.session h
  pub number : txn e.1.session h ≡ e.0
  pub id-is : id_of h e.1.session ≡ e.1.id

pub record AreOpens (h : List Event) : Type 0 where
  pub there : (s : ℕ) → IsOpen s h → is_there (txn s h) (opens h) × (id_at (txn s h) (opens h) ≡ id_of h s)
  pub back : AllByRecursion (IsEntry h) (opens h)

-- each open session is there, with its id, which its entry has
are_opens : (h : List Event) → AreIds h → ((s : ℕ) → IsOpen s h → is_there (txn s h) (opens h)) → AllByRecursion (IsEntry h) (opens h) → AreOpens h
are_opens h ids there back =
    record {
      there = λ s is-open. (
        there s is-open,
        there_id (txn s h) (id_of h s) (opens h) (all_weaker (IsEntry h) (λ (x : Entry). x.0 ≡ txn s h → x.1.id ≡ id_of h s)
            (λ x is same. sym is.id-is ∙ ap (id_of h) (ids.one_number x.1.session s is.is-open is-open (is.number ∙ same))) (opens h) back) (there s is-open),
      );
      back = back;
    }

-- each open session is there still
there_step : (e : Event) (h : List Event) → MayCome h e → AreIds h → ((s : ℕ) → IsOpen s h → is_there (txn s h) (opens h)) → (s : ℕ) → IsOpen s (e ∷ h)
    → is_there (txn s (e ∷ h)) (opens (e ∷ h))
there_step (Begin t m l) h may ids there s is-open =
    let new : Entry = (m, record { session = t; level = l; id = 0 }) in
    grind (arith, nat_tests, there_last (opens h) new, there_front (txn s h) (opens h) (new ∷ []), there s, is-open)
there_step e h may ids there s is-open = grind (arith, nat_tests, may, there s, is-open, ids.one_number s, there_without, there_given)

-- and each entry is that of its session
back_step : (e : Event) (h : List Event) → MayCome h e → AreIds h → AllByRecursion (IsEntry h) (opens h) → AllByRecursion (IsEntry (e ∷ h)) (opens (e ∷ h))
back_step (Begin t m l) h may ids back =
    all_front (IsEntry (Begin t m l ∷ h)) (opens h) (m, record { session = t; level = l; id = 0 })
    (all_weaker (IsEntry h) (IsEntry (Begin t m l ∷ h)) (λ x is. grind (arith, nat_tests, may.1, is)) (opens h) back) (grind (arith, nat_tests))
back_step (Changed t change) h may ids back =
    cond_both (id_of h t == 0) (with_id (txn t h) (given h + 1) (opens h)) (opens h) (AllByRecursion (IsEntry (Changed t change ∷ h)))
    (λ none. all_given (IsEntry h) (IsEntry (Changed t change ∷ h)) (txn t h) (given h + 1)
    (λ x same is. grind (arith, nat_tests, none, same, is, may.0, ids.one_number x.1.session t))
    (λ x apart is. grind (arith, nat_tests, apart, is)) (opens h) back)
    (λ some. all_weaker (IsEntry h) (IsEntry (Changed t change ∷ h)) (λ x is. grind (arith, nat_tests, some, is)) (opens h) back)
back_step (Committed t) h may ids back =
    all_without (IsEntry h) (IsEntry (Committed t ∷ h)) (txn t h) (λ x apart is. grind (arith, nat_tests, apart, is)) (opens h) back
back_step (RolledBack t) h may ids back =
    all_without (IsEntry h) (IsEntry (RolledBack t ∷ h)) (txn t h) (λ x apart is. grind (arith, nat_tests, apart, is)) (opens h) back
back_step e h may ids back = all_weaker (IsEntry h) (IsEntry (e ∷ h)) (λ x is. grind (arith, is)) (opens h) back

pub opens_of : (h : List Event) → IsOrdered h → AreOpens h
opens_of [] ordered = record { there = λ s is-open. cc; back = tt }
opens_of (e ∷ h) ordered =
    let was = opens_of h ordered.1 in
    let ids = ids_of h ordered.1 in
    are_opens (e ∷ h) (ids_of (e ∷ h) ordered) (there_step e h ordered.0 ids (λ s is-open. (was.there s is-open).0)) (back_step e h ordered.0 ids was.back)

-- ---- the active ids

has_id : (n id : ℕ) (xs : List Entry) → is_there n xs → id_at n xs ≡ id → 0 < id → list_any (λ a. a == id) (active_of xs) ≡ true
has_id n id [] there is some = cc
has_id n id (e ∷ xs) there is some = grind (arith, nat_tests, has_id n id xs, there, is, some)

has_none : (id : ℕ) (xs : List Entry) → AllByRecursion (λ (x : Entry). x.1.id ≢ id) xs → list_any (λ a. a == id) (active_of xs) ≡ false
has_none id [] all = refl
has_none id (e ∷ xs) all = grind (arith, nat_tests, has_none id xs all.1, all.0)

-- the id of an open transaction is active
pub active_open : (h : List Event) → IsOrdered h → (s : ℕ) → IsOpen s h → 0 < id_of h s → list_any (λ a. a == id_of h s) (active_of (opens h)) ≡ true
active_open h ordered s is-open some = let there = (opens_of h ordered).there s is-open in has_id (txn s h) (id_of h s) (opens h) there.0 there.1 some

-- and an id of no open transaction is not
pub active_none : (h : List Event) → IsOrdered h → (id : ℕ) → ((s : ℕ) → IsOpen s h → id_of h s ≢ id) → list_any (λ a. a == id) (active_of (opens h)) ≡ false
active_none h ordered id others =
    has_none id (opens h) (all_weaker (IsEntry h) (λ (x : Entry). x.1.id ≢ id) (λ x is same. others x.1.session is.is-open (is.id-is ∙ same)) (opens h)
    (opens_of h ordered).back)
