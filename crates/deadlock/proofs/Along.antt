-- The edges along a way round, one by one.
use Rattle.std.specs.Prelude.{◌≡◌, ℕ, ◌+◌, ◌<◌, ◌≤◌, ◌==◌, false, Some, None, List, [], ◌∷◌, ◌++◌, length, take, All, Contains, nat_eq}
use Rattle.std.specs.List.{AllByRecursion, IsDistinct}
use Rattle.std.proofs.Common.{arith, sym, ◌∙◌, ap, refl, inl, inr, subst, get_or, append_assoc, length-append}
use Rattle.std.proofs.lemmas.Bool.{or_parts, or_cases, both_ways, eq-eqb, eqb-true, false≢true, cases_lt}
use Rattle.std.proofs.lemmas.List.{take_more, take_all, map-append, length-map, get_or_default}
use Rattle.std.proofs.Math.ListN.{get_or-append, get_or-eq_default}
use Rattle.std.proofs.Math.Seq.{get_or-append_seam, take-append_seam}
use Rattle.std.proofs.lemmas.List.Elements.{All-push, All-pop, All-weaker, All-from_recursion, recursion_from_All}
use Rattle.inno_types.specs.declared.lock.Edge.{Edge}
use Rattle.inno_types.specs.declared.lock.Lock.{Lock}
use Rattle.lock_table.specs.Queue.{edge_to, edges_of, IsEdge}
use Rattle.deadlock.specs.Cycles.{IsCycleThrough, IsDepthFirst, waiters, holders}
use Rattle.deadlock.specs.Steps.{next_edge, IsInOrder, WaitsFor, IsWayRound}
use Rattle.deadlock.proofs.Rounds.{next_of, next-on, next-back}
use Rattle.deadlock.proofs.Circles.{circle_long}
use Rattle.deadlock.proofs.First.{all-at, followed_first}
use Rattle.deadlock.proofs.Waits.{unwanted_from_none, IsNext, next_from_some, apart_by_edge}

-- an edge to the one that is waited for is found
pub between_none : (granted waiting : List Lock) (waiter holder : ℕ) → WaitsFor granted waiting waiter holder → None ≡ next_edge holder [] (edges_of waiter granted waiting) → ⊥
between_none granted waiting waiter holder waits none =
    both_ways (holder == holder) (or_parts (holder == holder) false (unwanted_from_none holder [] (edges_of waiter granted waiting) (sym none) holder waits)).0 (eq-eqb holder holder refl)

pub between_some : (granted waiting : List Lock) (waiter holder : ℕ) (lock copy : Lock) → Some (edge_to waiter lock) ≡ next_edge holder [] (edges_of waiter granted waiting) → copy ≡ lock → next_edge holder [] (edges_of waiter granted waiting) ≡ Some (record { waiter = waiter; holder = holder; lock = copy })
between_some granted waiting waiter holder lock copy some same =
    let found : IsNext holder [] (edges_of waiter granted waiting) (edge_to waiter lock) = next_from_some holder [] (edges_of waiter granted waiting) (edge_to waiter lock) (sym some) in
    let is : lock.txn ≡ holder = elim (or_cases (lock.txn == holder) false found.wanted) [ inl e ↦ eqb-true lock.txn holder e | inr bad ↦ absurd (false≢true bad) ] in
    let edge : edge_to waiter lock ≡ record { waiter = waiter; holder = holder; lock = copy } = rw (same, is) refl in
    sym some ∙ ap Some edge

-- the first edge to its holder
abbrev pub IsFirstTo : List Lock → List Lock → Edge → Type 0
IsFirstTo granted waiting e = next_edge e.holder [] (edges_of e.waiter granted waiting) ≡ Some e

pub edge_from_first : (granted waiting : List Lock) (e : Edge) → IsFirstTo granted waiting e → IsEdge granted waiting e
edge_from_first granted waiting e first = (next_from_some e.holder [] (edges_of e.waiter granted waiting) e first).there

-- the edges so far lead along the path, up to a place
pub record IsAlong (granted waiting : List Lock) (path : List ℕ) (edges : List Edge) (i : ℕ) : Type 0 where
  pub waiters_are : waiters edges ≡ take i path
  pub holders_are : holders edges ≡ take i (next_of path)
  pub first : All (IsFirstTo granted waiting) edges

pub length-next_of : (path : List ℕ) → length (next_of path) ≡ length path
length-next_of [] = refl
length-next_of (x ∷ path) = omega (arith, length-append path (x ∷ []))

pub along_more : (granted waiting : List Lock) (path : List ℕ) (edges : List Edge) (i : ℕ) (e : Edge) → IsAlong granted waiting path edges i → i < length path → e.waiter ≡ get_or path i 0 → e.holder ≡ get_or (next_of path) i 0 → IsFirstTo granted waiting e → IsAlong granted waiting path (edges ++ e ∷ []) (i + 1)
along_more granted waiting path edges i e was within waiter holder first = record {
  waiters_are = map-append (λ (x : Edge). x.waiter) edges (e ∷ []) ∙ rw (was.waiters_are, waiter) (sym (take_more path i 0 within));
  holders_are = map-append (λ (x : Edge). x.holder) edges (e ∷ []) ∙ rw (was.holders_are, holder) (sym (take_more (next_of path) i 0 (omega (arith, within, length-next_of path))));
  first = All-push (IsFirstTo granted waiting) edges e was.first first;
}

pub along_all : (start : ℕ) (granted waiting : List Lock) (path : List ℕ) (edges : List Edge) (i : ℕ) → IsWayRound start granted waiting path → IsAlong granted waiting path edges i → length path ≤ i → IsCycleThrough start granted waiting edges
along_all start granted waiting path edges i way was past =
    let ws : waiters edges ≡ path = was.waiters_are ∙ take_all i path past in
    let hs : holders edges ≡ next_of path = was.holders_are ∙ take_all i (next_of path) (omega (arith, past, length-next_of path)) in
    let closes : holders edges ≡ next_of (waiters edges) = hs ∙ ap next_of (sym ws) in
    let stand : All (IsEdge granted waiting) edges = All-weaker (IsFirstTo granted waiting) (IsEdge granted waiting) (edge_from_first granted waiting) edges was.first in
    let some : 0 < length edges = omega (arith, way.some, ap length ws, length-map edges (λ (x : Edge). x.waiter)) in
    record {
      circle = record {
        stand = stand;
        long = circle_long (IsEdge granted waiting) (apart_by_edge granted waiting) edges stand closes some;
        apart = subst (IsDistinct nat_eq) (sym ws) way.apart;
        closes = closes;
      };
      through = subst (λ (ts : List ℕ). Contains ts start) (sym ws) (0, way.some, get_or_default path 0 start 0 way.some ∙ way.begins);
    }

-- there are as many edges as transactions on the way
pub along_long : (granted waiting : List Lock) (path : List ℕ) (edges : List Edge) (i : ℕ) → IsAlong granted waiting path edges i → length path ≤ i → length edges ≡ length path
along_long granted waiting path edges i was past = sym (length-map edges (λ (x : Edge). x.waiter)) ∙ ap length (was.waiters_are ∙ take_all i path past)

-- and it is the first that a depth-first search meets
pub along_first : (start : ℕ) (granted waiting : List Lock) (path : List ℕ) (edges : List Edge) (i : ℕ) → IsWayRound start granted waiting path → IsAlong granted waiting path edges i → length path ≤ i → IsDepthFirst start granted waiting edges
along_first start granted waiting path edges i way was past =
    let ws : waiters edges ≡ path = was.waiters_are ∙ take_all i path past in
    let hs : holders edges ≡ next_of path = was.holders_are ∙ take_all i (next_of path) (omega (arith, past, length-next_of path)) in
    record {
      begins = ap (λ (ts : List ℕ). get_or ts 0 0) ws ∙ way.begins;
      first = λ front back e is.
          let P : List ℕ = waiters (front ++ e ∷ []) in
          let k : ℕ = length front in
          let long : length P ≡ k + 1 = length-map (front ++ e ∷ []) (λ (x : Edge). x.waiter) ∙ length-append front (e ∷ []) in
          let whole : path ≡ P ++ waiters back = sym ws ∙ ap waiters (is ∙ sym (append_assoc front (e ∷ []) back)) ∙ map-append (λ (x : Edge). x.waiter) (front ++ e ∷ []) back in
          let within : k < length path = omega (arith, long, ap length whole, length-append P (waiters back)) in
          let cut : take (k + 1) path ≡ P = ap (take (k + 1)) whole ∙ rw (sym long) (take-append_seam P (waiters back)) in
          let waiter : get_or path k 0 ≡ e.waiter = ap (λ (ts : List ℕ). get_or ts k 0) (sym ws ∙ ap waiters is ∙ map-append (λ (x : Edge). x.waiter) front (e ∷ back)) ∙ rw (sym (length-map front (λ (x : Edge). x.waiter))) (get_or-append_seam (waiters front) e.waiter (waiters back) 0) in
          let holder : get_or (next_of path) k 0 ≡ e.holder = ap (λ (ts : List ℕ). get_or ts k 0) (sym hs ∙ ap holders is ∙ map-append (λ (x : Edge). x.holder) front (e ∷ back)) ∙ rw (sym (length-map front (λ (x : Edge). x.holder))) (get_or-append_seam (holders front) e.holder (holders back) 0) in
          let begins : get_or P 0 0 ≡ start = sym (get_or-append P (waiters back) 0 0 (omega (arith, long))) ∙ ap (λ (ts : List ℕ). get_or ts 0 0) (sym whole) ∙ way.begins in
          followed_first start granted waiting front e (all-at (IsFirstTo granted waiting) front back e (subst (AllByRecursion (IsFirstTo granted waiting)) is (recursion_from_All (IsFirstTo granted waiting) edges was.first))) begins
          (subst (λ (ts : List ℕ). IsInOrder start granted waiting ts e.waiter e.holder) cut (subst (λ t. IsInOrder start granted waiting (take (k + 1) path) t e.holder) waiter (subst (λ t. IsInOrder start granted waiting (take (k + 1) path) (get_or path k 0) t) holder (way.in_order k within))));
    }

-- the next one on the path, or the first behind the last
pub next_holder : (start : ℕ) (path : List ℕ) (i : ℕ) → get_or path 0 0 ≡ start → i < length path → get_or path (i + 1) start ≡ get_or (next_of path) i 0
next_holder start path i begins within =
    elim (cases_lt (i + 1) (length path)) [
      | inl inside ↦ get_or_default path (i + 1) start 0 inside ∙ sym (next-on path i inside)
      | inr past ↦ get_or-eq_default path start past ∙ sym begins ∙ sym (next-back path i (omega (arith, past, within)))
    ]

-- what holds of each holds of all but the last
pub all_but_last : {X : Type 0} (P : X → Type 0) (xs ys : List X) (x : X) → xs ≡ ys ++ x ∷ [] → AllByRecursion P xs → AllByRecursion P ys
all_but_last P xs ys x e all = recursion_from_All P ys (All-pop P xs ys (Some x) e (All-from_recursion P xs all)).0

pub length_but_last : {X : Type 0} (xs ys : List X) (x : X) → xs ≡ ys ++ x ∷ [] → length xs ≡ length ys + 1
length_but_last xs ys x e = ap length e ∙ length-append ys (x ∷ [])
