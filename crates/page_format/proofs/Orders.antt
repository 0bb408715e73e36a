-- Records that rise: one taken out, and records whose first bytes rise.
use Rattle.std.proofs.Common.{◌≡◌, ℕ, zero, suc, ◌<◌, List, [], ◌∷◌, length, take, drop, get_or, set, map, refl, sym, ap, ◌∙◌, arith}
use Rattle.std.specs.Prelude.{remove}
use Rattle.std.specs.declared.cmp.Ordering.{Ordering}
use Rattle.std.specs.declared.cmp.Ordering.TheVariants.{Less, Equal, Greater}
use Rattle.std.specs.Ordering.{nat_cmp, ordering_then}
use Rattle.std.specs.Cmp.Lexicographic.{slice_cmp}
use Rattle.std.proofs.lemmas.Bool.Decides.{nat_tests}
use Rattle.std.proofs.lemmas.Cmp.{nat_list_cmp_total}
use Rattle.std.proofs.lemmas.List.{map-set, take-set, get_or-map, set-get_or}
use Rattle.page_format.specs.Changes.{with_byte}
use Rattle.page_format.specs.Shape.{AreRising}
use Rattle.page_format.proofs.Pieces.{AreWide}

rising_tail : (x : List ℕ) (rs : List (List ℕ)) → AreRising (x ∷ rs) → AreRising rs
rising_tail x [] r = tt
rising_tail x (y ∷ rs) r = r.1

cons_remove : (x : List ℕ) (rs : List (List ℕ)) (i : ℕ) → AreRising (x ∷ rs) → AreRising (x ∷ remove rs i)
cons_remove x [] zero r = tt
cons_remove x [] (suc i) r = tt
cons_remove x (y ∷ []) zero r = tt
cons_remove x (y ∷ z ∷ rs) zero r = (nat_list_cmp_total.trans x y z r.0 r.1.0, r.1.1)
cons_remove x (y ∷ rs) (suc i) r = (r.0, cons_remove y rs i r.1)

pub rising_remove : (rs : List (List ℕ)) (i : ℕ) → AreRising rs → AreRising (remove rs i)
rising_remove [] zero r = tt
rising_remove [] (suc i) r = tt
rising_remove (x ∷ rs) zero r = rising_tail x rs r
rising_remove (x ∷ rs) (suc i) r = cons_remove x rs i r

pub rising_drop : (n : ℕ) (rs : List (List ℕ)) → AreRising rs → AreRising (drop n rs)
rising_drop zero rs r = r
rising_drop (suc n) [] r = tt
rising_drop (suc n) (x ∷ rs) r = rising_drop n rs (rising_tail x rs r)

pub rising_take : (n : ℕ) (rs : List (List ℕ)) → AreRising rs → AreRising (take n rs)
rising_take zero rs r = tt
rising_take (suc n) [] r = tt
rising_take (suc zero) (x ∷ rs) r = tt
rising_take (suc (suc n)) (x ∷ []) r = tt
rising_take (suc (suc n)) (x ∷ y ∷ rs) r = (r.0, rising_take (suc n) (y ∷ rs) r.1)

then_less : (o p q : Ordering) → (p ≡ Less → q ≡ Less) → ordering_then o p ≡ Less → ordering_then o q ≡ Less
then_less Less p q f e = refl
then_less Equal p q f e = f e
then_less Greater p q f e = absurd cc

less_by_front : (k : ℕ) (x y : List ℕ) → length x ≡ length y → slice_cmp nat_cmp (take k x) (take k y) ≡ Less → slice_cmp nat_cmp x y ≡ Less
less_by_front zero x y len e = absurd cc
less_by_front (suc k) [] [] len e = absurd cc
less_by_front (suc k) [] (y ∷ ys) len e = absurd (omega (arith, len))
less_by_front (suc k) (x ∷ xs) [] len e = absurd (omega (arith, len))
less_by_front (suc k) (x ∷ xs) (y ∷ ys) len e = then_less (nat_cmp x y) (slice_cmp nat_cmp (take k xs) (take k ys)) (slice_cmp nat_cmp xs ys) (less_by_front k xs ys (omega (arith, len))) e

-- records whose keys rise
pub rising_by_keys : (width k : ℕ) (rs : List (List ℕ)) → AreWide width rs → AreRising (map (take k) rs) → AreRising rs
rising_by_keys width k [] wide r = tt
rising_by_keys width k (x ∷ []) wide r = tt
rising_by_keys width k (x ∷ y ∷ rs) wide r = (less_by_front k x y (wide.0 ∙ sym wide.1.0) r.0, rising_by_keys width k (y ∷ rs) wide.1 r.1)

-- a mark behind the key changes no key
pub keys-with_byte : (i k byte : ℕ) (rs : List (List ℕ)) → i < length rs → map (take k) (with_byte i k byte rs) ≡ map (take k) rs
keys-with_byte i k byte rs inside =
    let r = get_or rs i [] in
    let key : take k (set r k byte) ≡ get_or (map (take k) rs) i [] = take-set r k byte ∙ sym (get_or-map (take k) rs i [] [] inside) in
    map-set (take k) rs i (set r k byte) ∙ ap (set (map (take k) rs) i) key ∙ set-get_or (map (take k) rs) i []

both_equal : (o p : Ordering) → ordering_then o p ≡ Equal → (o ≡ Equal) × (p ≡ Equal)
both_equal Less p e = absurd cc
both_equal Equal p e = (refl, e)
both_equal Greater p e = absurd cc

same_number : (x y : ℕ) → nat_cmp x y ≡ Equal → x ≡ y
same_number x y e = grind (arith, nat_tests)

pub same_bytes : (xs ys : List ℕ) → slice_cmp nat_cmp xs ys ≡ Equal → xs ≡ ys
same_bytes [] [] e = refl
same_bytes [] (y ∷ ys) e = absurd cc
same_bytes (x ∷ xs) [] e = absurd cc
same_bytes (x ∷ xs) (y ∷ ys) e =
    let parts = both_equal (nat_cmp x y) (slice_cmp nat_cmp xs ys) e in
    let first = same_number x y parts.0 in
    let rest = same_bytes xs ys parts.1 in λ i. first i ∷ rest i
