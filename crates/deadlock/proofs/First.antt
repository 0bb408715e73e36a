-- The cycle that was found is the first that the search meets: none goes on along an earlier edge.
use Rattle.std.specs.Prelude.{◌≡◌, ℕ, ◌<◌, ◌==◌, false, Some, List, [], ◌∷◌, ◌++◌, length, drop, map, nat_eq}
use Rattle.std.specs.List.{AllByRecursion, IsDistinct}
use Rattle.std.proofs.Common.{arith, sym, ◌∙◌, ap, refl, inl, inr, subst, get_or, length-append}
use Rattle.std.proofs.Math.ListN.{get_or-append}
use Rattle.std.proofs.lemmas.Bool.{cases_Bool, or_from}
use Rattle.std.proofs.lemmas.List.{map-append, length-map}
use Rattle.std.proofs.lemmas.List.Elements.{All-from_recursion, recursion_from_All}
use Rattle.inno_types.specs.declared.lock.Edge.{Edge}
use Rattle.inno_types.specs.declared.lock.Lock.{Lock}
use Rattle.lock_table.specs.Queue.{edge_to, edges_of, edges_behind, blockers, IsEdge}
use Rattle.deadlock.specs.Cycles.{waiters, holders, HasNoCycleOn, IsFollowedFirst}
use Rattle.deadlock.specs.Steps.{is_among, next_edge, edges_before, IsChain, IsBarred, IsInOrder}
use Rattle.deadlock.proofs.Rounds.{next_of}

all-suffix : {X : Type 0} (P : X → Type 0) (xs ys : List X) → AllByRecursion P (xs ++ ys) → AllByRecursion P ys
all-suffix P [] ys all = all
all-suffix P (x ∷ xs) ys all = all-suffix P xs ys all.1

pub all-at : (P : Edge → Type 0) (front back : List Edge) (e : Edge) → AllByRecursion P (front ++ e ∷ back) → P e
all-at P front back e all = (all-suffix P front (e ∷ back) all).0

-- edges whose holders are the waiters moved on by one lead on and on
tail_chain : (e : Edge) (edges : List Edge) (last : ℕ) → holders (e ∷ edges) ≡ waiters edges ++ last ∷ [] → IsChain e.holder edges last
tail_chain e [] last same = ap (λ (ts : List ℕ). get_or ts 0 0) same
tail_chain e (f ∷ edges) last same = (sym (ap (λ (ts : List ℕ). get_or ts 0 0) same), tail_chain f edges last (ap (drop 1) same))

chain-suffix : (front rest : List Edge) (f : Edge) (from to : ℕ) → IsChain from ((front ++ f ∷ []) ++ rest) to → IsChain f.holder rest to
chain-suffix [] rest f from to chain = chain.1
chain-suffix (x ∷ front) rest f from to chain = chain-suffix front rest f x.holder to chain.1

-- behind an edge of a circle the others lead back to its first waiter
circle_chain : (front rest : List Edge) (f : Edge) → holders ((front ++ f ∷ []) ++ rest) ≡ next_of (waiters ((front ++ f ∷ []) ++ rest)) → IsChain f.holder rest (get_or (waiters ((front ++ f ∷ []) ++ rest)) 0 0)
circle_chain [] rest f closes = tail_chain f rest f.waiter closes
circle_chain (x ∷ front) rest f closes = chain-suffix front rest f x.holder x.waiter (tail_chain x ((front ++ f ∷ []) ++ rest) x.waiter closes)

-- of a list without repeats no later item is among the earlier ones
distinct_apart : (xs ys : List ℕ) → IsDistinct nat_eq (xs ++ ys) → AllByRecursion (λ y. is_among y xs ≡ false) ys
unfolding IsDistinct
distinct_apart [] ys apart = every ys
  where
    every : (zs : List ℕ) → AllByRecursion (λ y. is_among y [] ≡ false) zs
    every [] = tt
    every (z ∷ zs) = (refl, every zs)
distinct_apart (x ∷ xs) ys apart = both ys (all-suffix (λ y. nat_eq x y ≡ false) xs ys apart.0) (distinct_apart xs ys apart.1)
  where
    both : (zs : List ℕ) → AllByRecursion (λ y. nat_eq x y ≡ false) zs → AllByRecursion (λ y. is_among y xs ≡ false) zs → AllByRecursion (λ y. is_among y (x ∷ xs) ≡ false) zs
    both [] _ _ = tt
    both (z ∷ zs) other absent = (or_from (x == z) (is_among z xs) other.0 absent.0, both zs other.1 absent.1)

over_waiters : (P : ℕ → Type 0) (edges : List Edge) → AllByRecursion P (waiters edges) → AllByRecursion (λ e. P e.waiter) edges
over_waiters P [] all = tt
over_waiters P (e ∷ edges) all = (all.0, over_waiters P edges all.1)

-- where an edge is barred, no cycle goes on along it
no_cycle_on : (start : ℕ) (granted waiting : List Lock) (front : List Edge) (f : Edge) → get_or (waiters (front ++ f ∷ [])) 0 0 ≡ start → IsBarred start granted waiting (waiters (front ++ f ∷ [])) f.holder → HasNoCycleOn granted waiting (front ++ f ∷ [])
no_cycle_on start granted waiting front f begins barred rest cycle =
    let F : List Edge = front ++ f ∷ [] in
    let split : waiters (F ++ rest) ≡ waiters F ++ waiters rest = map-append (λ (x : Edge). x.waiter) F rest in
    let some : 0 < length (waiters F) = omega (arith, length-map F (λ (x : Edge). x.waiter), length-append front (f ∷ [])) in
    let first : get_or (waiters (F ++ rest)) 0 0 ≡ start = ap (λ (ts : List ℕ). get_or ts 0 0) split ∙ get_or-append (waiters F) (waiters rest) 0 0 some ∙ begins in
    barred rest
    (all-suffix (IsEdge granted waiting) F rest (recursion_from_All (IsEdge granted waiting) (F ++ rest) cycle.stand))
    (over_waiters (λ y. is_among y (waiters F) ≡ false) rest (distinct_apart (waiters F) (waiters rest) (subst (IsDistinct nat_eq) split cycle.apart)))
    (subst (λ t. IsChain f.holder rest t) first (circle_chain front rest f cycle.closes))

-- the first edge to the holder stands behind those before it
pub record IsSplit (edges : List Edge) (e : Edge) : Type 0 where
  pub later : List Edge
  pub is : edges ≡ edges_before e.holder edges ++ e ∷ later

pub split_at_first : (edges : List Edge) (e : Edge) → next_edge e.holder [] edges ≡ Some e → IsSplit edges e
split_at_first [] e found = absurd (cc)
split_at_first (f ∷ edges) e found =
    elim (cases_Bool (f.holder == e.holder)) [
      | inl here ↦
          let is : Some f ≡ Some e = rw here at found in
          let same : f ≡ e = cc in
          record { later = edges; is = rw here (ap (λ (x : Edge). x ∷ edges) same) }
      | inr other ↦
          let rest : IsSplit edges e = split_at_first edges e (rw other at found) in
          record { later = rest.later; is = rw other (ap (λ (es : List Edge). f ∷ es) rest.is) }
    ]

-- all edges of a transaction have it as their waiter
map_edges : (txn : ℕ) (locks : List Lock) → AllByRecursion (λ (e : Edge). e.waiter ≡ txn) (map (edge_to txn) locks)
map_edges txn [] = tt
map_edges txn (lock ∷ locks) = (refl, map_edges txn locks)

own_edges : (txn : ℕ) (held earlier queue : List Lock) → AllByRecursion (λ (e : Edge). e.waiter ≡ txn) (edges_behind txn held earlier queue)
own_edges txn held earlier [] = tt
own_edges txn held earlier (asked ∷ queue) =
    elim (cases_Bool (asked.txn == txn)) [ inl here ↦ rw here (map_edges txn (blockers held earlier asked)) | inr other ↦ rw other (own_edges txn held (earlier ++ asked ∷ []) queue) ]

before_all : (P : Edge → Type 0) (holder : ℕ) (edges : List Edge) → AllByRecursion P edges → AllByRecursion P (edges_before holder edges)
before_all P holder [] all = tt
before_all P holder (e ∷ edges) all = elim (cases_Bool (e.holder == holder)) [ inl here ↦ rw here tt | inr other ↦ rw other (all.0, before_all P holder edges all.1) ]

along_both : (P Q R : Edge → Type 0) → ((e : Edge) → P e → Q e → R e) → (edges : List Edge) → AllByRecursion P edges → AllByRecursion Q edges → AllByRecursion R edges
along_both P Q R to [] _ _ = tt
along_both P Q R to (e ∷ edges) ps qs = (to e ps.0 qs.0, along_both P Q R to edges ps.1 qs.1)

-- an edge that is in order behind these edges is followed first
pub followed_first : (start : ℕ) (granted waiting : List Lock) (front : List Edge) (e : Edge) → next_edge e.holder [] (edges_of e.waiter granted waiting) ≡ Some e → get_or (waiters (front ++ e ∷ [])) 0 0 ≡ start → IsInOrder start granted waiting (waiters (front ++ e ∷ [])) e.waiter e.holder → IsFollowedFirst granted waiting front e
followed_first start granted waiting front e first begins ordered =
    let edges : List Edge = edges_of e.waiter granted waiting in
    let split : IsSplit edges e = split_at_first edges e first in
    record {
      earlier = edges_before e.holder edges;
      later = split.later;
      in_order = split.is;
      no_cycle = All-from_recursion (λ (f : Edge). HasNoCycleOn granted waiting (front ++ f ∷ [])) (edges_before e.holder edges)
          (along_both (λ (f : Edge). IsBarred start granted waiting (waiters (front ++ e ∷ [])) f.holder) (λ (f : Edge). f.waiter ≡ e.waiter) (λ (f : Edge). HasNoCycleOn granted waiting (front ++ f ∷ []))
          (λ f barred own.
          let same : waiters (front ++ e ∷ []) ≡ waiters (front ++ f ∷ []) = map-append (λ (x : Edge). x.waiter) front (e ∷ []) ∙ ap (λ t. waiters front ++ t ∷ []) (sym own) ∙ sym (map-append (λ (x : Edge). x.waiter) front (f ∷ [])) in
          no_cycle_on start granted waiting front f (subst (λ (ts : List ℕ). get_or ts 0 0 ≡ start) same begins) (subst (λ (ts : List ℕ). IsBarred start granted waiting ts f.holder) same barred))
          (edges_before e.holder edges) ordered (before_all (λ (f : Edge). f.waiter ≡ e.waiter) e.holder edges (own_edges e.waiter granted [] waiting)));
    }
