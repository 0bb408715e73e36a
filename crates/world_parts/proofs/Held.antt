-- What is said of the transaction of a number changes one session.
use Rattle.std.proofs.Common.{◌≡◌, ◌≢◌, ℕ, zero, suc, true, false, List, [], ◌∷◌, map, Option, None, Some, refl, ap, sym, ◌∙◌, subst, inl, inr, arith}
use Rattle.std.specs.Prelude.{slice_get, slice_set}
use Rattle.std.proofs.lemmas.Bool.{cases_Bool}
use Rattle.std.proofs.lemmas.Bool.Decides.{nat_tests}
use Rattle.world.specs.State.{Work, Session, txn_of}
use Rattle.world.specs.Sessions.{of_txn, change_txn}
use Rattle.world_parts.specs.Rooms.{is_of}
use Rattle.world_parts.specs.Holding.{NoneHolds, AreApart, txn_in}

map_same : {X : Type 0} (g : X → X) (xs : List X) → ((k : ℕ) (y : X) → slice_get xs k ≡ Some y → g y ≡ y) → map g xs ≡ xs
map_same g [] same = refl
map_same g (y ∷ xs) same = rw (same zero y refl, map_same g xs (λ k z there. same (suc k) z there)) refl

map_one : {X : Type 0} (g : X → X) (xs : List X) (s : ℕ) (x : X) → slice_get xs s ≡ Some x → ((k : ℕ) (y : X) → slice_get xs k ≡ Some y → k ≢ s → g y ≡ y)
    → map g xs ≡ slice_set xs s (g x)
map_one g [] s x there others = absurd (cc)
map_one g (y ∷ xs) zero x there others =
    let e : y ≡ x = cc in
    rw (e, map_same g xs (λ k z at. others (suc k) z at (λ same. cc))) refl
map_one g (y ∷ xs) (suc s) x there others =
    rw (others zero y refl (λ same. cc), map_one g xs s x there (λ k z at other. others (suc k) z at (λ same. other (cc)))) refl

pub txn_is : (txn : ℕ) (work : Option Work) → is_of txn work ≡ true → txn_of work ≡ Some txn
txn_is txn None is = absurd (cc)
txn_is txn (Some work) is = let e : work.txn ≡ txn = grind (arith, nat_tests) in ap Some e

pub is_txn : (txn : ℕ) (work : Option Work) (w : Work) → work ≡ Some w → w.txn ≡ txn → is_of txn work ≡ true
is_txn txn work w is same = rw (is, same) (grind (arith, nat_tests))

of_it : (txn : ℕ) (f : Session → Session) (x : Session) (work : Option Work) → is_of txn work ≡ true → of_txn txn f x work ≡ f x
of_it txn f x None is = absurd (cc)
of_it txn f x (Some work) is = rw is refl

not_of_it : (txn : ℕ) (f : Session → Session) (x : Session) (work : Option Work) → is_of txn work ≡ false → of_txn txn f x work ≡ x
not_of_it txn f x None is = refl
not_of_it txn f x (Some work) is = rw is refl

-- two sessions that hold one transaction are the same
pub one_holder : (txn s t : ℕ) (x y : Session) (sessions : List Session) → AreApart sessions → slice_get sessions s ≡ Some x → slice_get sessions t ≡ Some y
    → is_of txn x.work ≡ true → is_of txn y.work ≡ true → t ≡ s
one_holder txn s t x y sessions apart there-x there-y is-x is-y =
    apart t s txn (ap txn_in there-y ∙ txn_is txn y.work is-y) (ap txn_in there-x ∙ txn_is txn x.work is-x)

others_stay : (txn s : ℕ) (f : Session → Session) (x : Session) (sessions : List Session) → AreApart sessions → slice_get sessions s ≡ Some x
    → is_of txn x.work ≡ true
    → (k : ℕ) (y : Session) → slice_get sessions k ≡ Some y → k ≢ s → of_txn txn f y y.work ≡ y
others_stay txn s f x sessions apart there is k y at other = elim (cases_Bool (is_of txn y.work)) [
  | inl also ↦ absurd (other (one_holder txn s k x y sessions apart there at is also))
  | inr not ↦ not_of_it txn f y y.work not
]

-- where a session holds the transaction, it alone changes
pub held : (txn s : ℕ) (f : Session → Session) (x : Session) (sessions : List Session) → AreApart sessions → slice_get sessions s ≡ Some x
    → is_of txn x.work ≡ true
    → change_txn txn f sessions ≡ slice_set sessions s (f x)
held txn s f x sessions apart there is =
    map_one (λ y. of_txn txn f y y.work) sessions s x there (others_stay txn s f x sessions apart there is)
    ∙ ap (slice_set sessions s) (of_it txn f x x.work is)

-- what stands then where that session stood
pub held_there : (txn s : ℕ) (f : Session → Session) (x : Session) (sessions : List Session) → slice_get sessions s ≡ Some x → is_of txn x.work ≡ true
    → slice_get (change_txn txn f sessions) s ≡ Some (f x)
held_there txn s f x [] there is = absurd (cc)
held_there txn zero f x (y ∷ sessions) there is = let e : y ≡ x = cc in rw e (ap Some (of_it txn f x x.work is))
held_there txn (suc s) f x (y ∷ sessions) there is = held_there txn s f x sessions there is

-- where no session holds it, none changes
pub unheld : (txn : ℕ) (f : Session → Session) (sessions : List Session) → NoneHolds txn sessions → change_txn txn f sessions ≡ sessions
unheld txn f sessions none = map_same (λ y. of_txn txn f y y.work) sessions (λ k y there. not_of_it txn f y y.work (none k y there))

-- whoever has the transaction is that session
pub same_holder : (txn s t : ℕ) (x y : Session) (sessions : List Session) → AreApart sessions → slice_get sessions s ≡ Some x → slice_get sessions t ≡ Some y
    → is_of txn x.work ≡ true → is_of txn y.work ≡ true → y ≡ x
same_holder txn s t x y sessions apart there-x there-y is-x is-y =
    let e = one_holder txn s t x y sessions apart there-x there-y is-x is-y in
    let both : Some y ≡ Some x = sym (subst (λ (n : ℕ). slice_get sessions n ≡ Some y) e there-y) ∙ there-x in cc
