-- The pairs of a row of leaves rise, and those before a fence are under it.
use Rattle.std.proofs.Common.{◌≡◌, ℕ, List, [], ◌∷◌, ◌++◌, refl, ◌∙◌, ap, subst, false, Bool}
use Rattle.std.specs.declared.cmp.Ordering.TheVariants.{Less}
use Rattle.std.specs.Ordering.{is_le}
use Rattle.std.specs.List.{AllByRecursion}
use Rattle.std.specs.Prelude.{find}
use Rattle.law_flat_tree.specs.Levels.{Fence, Node, IsRow}
use Rattle.entries.specs.Pairs.{Pair, key_cmp, AreRising}
use Rattle.entries.proofs.Order.{key_cmp_total}
use Rattle.law_flat_tree.specs.Leaves.{IsUnder, IsFrom, IsUpTo, AreLeaves, pairs_of}
use Rattle.law_flat_tree.proofs.Rows.{flat_cut}
use Rattle.law_flat_tree.proofs.Fences.{apart, room_up_to}

pub each : {A : Type 0} (P Q : A → Type 0) (all : (x : A) → P x → Q x) (xs : List A) → AllByRecursion P xs → AllByRecursion Q xs
each P Q all [] ps = ps
each P Q all (x ∷ xs) ps = (all x ps.0, each P Q all xs ps.1)

pub both : {A : Type 0} (P : A → Type 0) (xs ys : List A) → AllByRecursion P xs → AllByRecursion P ys → AllByRecursion P (xs ++ ys)
both P [] ys ps qs = qs
both P (x ∷ xs) ys ps qs = (ps.0, both P xs ys ps.1 qs)

pub up_to : (node : ℕ → Node) (held : ℕ → List Pair) (low high : Fence) (next : ℕ) (xs : List ℕ) → AreLeaves node held xs → IsRow node low xs high next
    → IsUpTo low high
up_to node held low high next [] leaves row = subst (λ f. IsUpTo low f) row (record { under = λ k u. u; from = λ k u. u })
up_to node held low high next (x ∷ xs) leaves row =
    let rest = up_to node held (node x).high high next xs leaves.1 row.2 in
    subst (λ f. IsUpTo f high) row.0
    (record {
      under = λ k u. rest.under k ((room_up_to (node x).low (node x).high leaves.0.room).under k u);
      from = λ k u.
          (room_up_to (node x).low (node x).high leaves.0.room).from k (rest.from k u);
    })

-- all pairs of the row are under its end
pub all_under : (node : ℕ → Node) (held : ℕ → List Pair) (low high : Fence) (next : ℕ) (xs : List ℕ) → AreLeaves node held xs → IsRow node low xs high next
    → AllByRecursion (λ pair. IsUnder high pair.0) (pairs_of held xs)
all_under node held low high next [] leaves row = tt
all_under node held low high next (x ∷ xs) leaves row =
    both (λ pair. IsUnder high pair.0) (held x) (pairs_of held xs)
    (each (λ pair. IsUnder (node x).high pair.0) (λ pair. IsUnder high pair.0)
    (λ pair u. (up_to node held (node x).high high next xs leaves.1 row.2).under pair.0 u) (held x) leaves.0.under)
    (all_under node held (node x).high high next xs leaves.1 row.2)

-- and from its beginning
pub all_from : (node : ℕ → Node) (held : ℕ → List Pair) (low high : Fence) (next : ℕ) (xs : List ℕ) → AreLeaves node held xs → IsRow node low xs high next
    → AllByRecursion (λ pair. IsFrom low pair.0) (pairs_of held xs)
all_from node held low high next [] leaves row = tt
all_from node held low high next (x ∷ xs) leaves row =
    subst (λ f. AllByRecursion (λ (pair : Pair). IsFrom f pair.0) (pairs_of held (x ∷ xs))) row.0
    (both (λ pair. IsFrom (node x).low pair.0) (held x) (pairs_of held xs) leaves.0.from
    (each (λ pair. IsFrom (node x).high pair.0) (λ pair. IsFrom (node x).low pair.0)
    (λ pair u. (room_up_to (node x).low (node x).high leaves.0.room).from pair.0 u) (pairs_of held xs)
    (all_from node held (node x).high high next xs leaves.1 row.2)))

pub joined_rise : (xs ys : List Pair) → AreRising xs → AreRising ys
    → AllByRecursion (λ (pair : Pair). AllByRecursion (λ (later : Pair). key_cmp pair.0 later.0 ≡ Less) ys) xs → AreRising (xs ++ ys)
joined_rise [] ys rise others all = others
joined_rise (x ∷ xs) ys rise others all = (both (λ (later : Pair). key_cmp x.0 later.0 ≡ Less) xs ys rise.0 all.0, joined_rise xs ys rise.1 others all.1)

pub rise : (node : ℕ → Node) (held : ℕ → List Pair) (low high : Fence) (next : ℕ) (xs : List ℕ) → AreLeaves node held xs → IsRow node low xs high next
    → AreRising (pairs_of held xs)
rise node held low high next [] leaves row = tt
rise node held low high next (x ∷ xs) leaves row =
    joined_rise (held x) (pairs_of held xs) leaves.0.rising (rise node held (node x).high high next xs leaves.1 row.2)
    (each (λ pair. IsUnder (node x).high pair.0) (λ (pair : Pair). AllByRecursion (λ (later : Pair). key_cmp pair.0 later.0 ≡ Less) (pairs_of held xs))
    (λ pair under. each (λ later. IsFrom (node x).high later.0) (λ (later : Pair). key_cmp pair.0 later.0 ≡ Less)
    (λ later from. apart (node x).high pair.0 later.0 under from) (pairs_of held xs)
    (all_from node held (node x).high high next xs leaves.1 row.2))
    (held x) leaves.0.under)

pub fails : {A : Type 0} (test : A → Bool) (P : A → Type 0) (misses : (x : A) → P x → test x ≡ false) (xs ys : List A) → AllByRecursion P xs
    → find test (xs ++ ys) ≡ find test ys
fails test P misses [] ys ps = refl
fails test P misses (x ∷ xs) ys ps = rw (misses x ps.0) (fails test P misses xs ys ps.1)

pub not_from : (fence : Fence) (key other : List ℕ) → IsUnder fence other → IsFrom fence key → is_le (key_cmp key other) ≡ false
not_from fence key other under from = rw (key_cmp_total.antisymm key other) (rw (apart fence other key under from) refl)

-- what a search finds from a key on is found from the leaf on whose low fence is at or below the key
pub reads_leaf : (node : ℕ → Node) (held : ℕ → List Pair) (low middle : Fence) (next : ℕ) (xs ys : List ℕ) (key : List ℕ) → AreLeaves node held xs
    → IsRow node low xs middle next → IsFrom middle key
    → find (λ (pair : Pair). is_le (key_cmp key pair.0)) (pairs_of held (xs ++ ys)) ≡ find (λ (pair : Pair). is_le (key_cmp key pair.0)) (pairs_of held ys)
reads_leaf node held low middle next xs ys key leaves row from =
    ap (find (λ (pair : Pair). is_le (key_cmp key pair.0))) (flat_cut held xs ys)
    ∙ fails (λ (pair : Pair). is_le (key_cmp key pair.0)) (λ pair. IsUnder middle pair.0) (λ pair under. not_from middle key pair.0 under from)
    (pairs_of held xs) (pairs_of held ys)
    (all_under node held low middle next xs leaves row)
