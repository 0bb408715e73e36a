-- One step of the search over a lock table's lists, and what its end says.
use Rattle.std.specs.Prelude.{◌≡◌, ◌≢◌, ℕ, ◌<◌, ◌==◌, true, false, Some, None, List, [], ◌∷◌, ◌++◌, length, map}
use Rattle.std.proofs.Common.{arith, sym, inl, inr, subst}
use Rattle.std.proofs.lemmas.Bool.{or_cases, ne_eqb, both_ways}
use Rattle.inno_types.specs.declared.lock.Edge.{Edge}
use Rattle.inno_types.specs.declared.lock.Lock.{Lock}
use Rattle.lock_table.specs.Queue.{edge_to, edges_of, IsEdge}
use Rattle.deadlock.specs.Cycles.{IsCycleThrough}
use Rattle.deadlock.specs.Steps.{is_among, is_wanted, without, next_edge, IsInOrder, WaitsFor, IsWayRound}
use Rattle.deadlock.proofs.Lists.{length-without}
use Rattle.deadlock.proofs.DepthFirst.{IsSearching, path_to, length-path, search_begun, search_visits, search_leaves, search_ended}
use Rattle.deadlock.proofs.Rounds.{search_found}
use Rattle.deadlock.proofs.Order.{IsOrdered, next_in_order, ordered_begun, ordered_visits, ordered_leaves, ordered_round}
use Rattle.deadlock.proofs.Circles.{no_circle}
use Rattle.deadlock.proofs.Waits.{unwanted_from_none, IsNext, next_from_some, waits_among, waits_by_edge}

pub order_begun : (granted waiting : List Lock) (start : ℕ) (path : List ℕ) → path ≡ [] → IsOrdered start granted waiting (path_to path start)
order_begun granted waiting start path empty = rw empty (ordered_begun granted waiting start)

pub loop_begun : (granted waiting : List Lock) (start : ℕ) (unvisited path : List ℕ) → unvisited ≡ without start (map (λ (asked : Lock). asked.txn) waiting) → path ≡ [] → IsSearching (WaitsFor granted waiting) start unvisited path start
loop_begun granted waiting start unvisited path others empty =
    rw (others, empty) (search_begun (WaitsFor granted waiting) start (map (λ (asked : Lock). asked.txn) waiting) (λ v h waits. waits_among v h granted [] waiting waits))

-- an edge back to the start: the path is a way round
pub loop_found : (granted waiting : List Lock) (start : ℕ) (unvisited path : List ℕ) (at : ℕ) (lock : Lock) → IsSearching (WaitsFor granted waiting) start unvisited path at → IsOrdered start granted waiting (path_to path at) → Some (edge_to at lock) ≡ next_edge start unvisited (edges_of at granted waiting) → lock.txn ≡ start → IsWayRound start granted waiting (path_to path at)
loop_found granted waiting start unvisited path at lock was ordered next back =
    let found : IsNext start unvisited (edges_of at granted waiting) (edge_to at lock) = next_from_some start unvisited (edges_of at granted waiting) (edge_to at lock) (sym next) in
    let last : IsInOrder start granted waiting (path_to path at) at lock.txn = next_in_order granted waiting start unvisited path at (edge_to at lock) was (sym next) in
    record {
      some = omega (arith, length-path path at);
      begins = was.begins;
      apart = was.apart;
      waits = search_found (WaitsFor granted waiting) start unvisited path at was (subst (λ h. WaitsFor granted waiting at h) back found.leads);
      in_order = ordered_round granted waiting start path at ordered (subst (λ h. IsInOrder start granted waiting (path_to path at) at h) back last) was.begins;
    }

-- an edge to another: the search is there now
pub loop_visits : (granted waiting : List Lock) (start : ℕ) (unvisited path : List ℕ) (at : ℕ) (lock : Lock) → IsSearching (WaitsFor granted waiting) start unvisited path at → Some (edge_to at lock) ≡ next_edge start unvisited (edges_of at granted waiting) → lock.txn ≢ start → IsSearching (WaitsFor granted waiting) start (without lock.txn unvisited) (path_to path at) lock.txn × (length (without lock.txn unvisited) < length unvisited)
loop_visits granted waiting start unvisited path at lock was next on =
    let found : IsNext start unvisited (edges_of at granted waiting) (edge_to at lock) = next_from_some start unvisited (edges_of at granted waiting) (edge_to at lock) (sym next) in
    let fresh : is_among lock.txn unvisited ≡ true = elim (or_cases (lock.txn == start) (is_among lock.txn unvisited) found.wanted) [ inl same ↦ absurd (both_ways (lock.txn == start) (ne_eqb lock.txn start on) same) | inr there ↦ there ] in
    (search_visits (WaitsFor granted waiting) start unvisited path at lock.txn was found.leads fresh, length-without lock.txn unvisited fresh)

pub order_visits : (granted waiting : List Lock) (start : ℕ) (unvisited path : List ℕ) (at : ℕ) (lock : Lock) → IsSearching (WaitsFor granted waiting) start unvisited path at → IsOrdered start granted waiting (path_to path at) → Some (edge_to at lock) ≡ next_edge start unvisited (edges_of at granted waiting) → IsOrdered start granted waiting (path_to (path_to path at) lock.txn)
order_visits granted waiting start unvisited path at lock was ordered next =
    ordered_visits granted waiting start path at lock.txn ordered (next_in_order granted waiting start unvisited path at (edge_to at lock) was (sym next))

unwanted : (granted waiting : List Lock) (start : ℕ) (unvisited : List ℕ) (at : ℕ) → None ≡ next_edge start unvisited (edges_of at granted waiting) → (h : ℕ) → WaitsFor granted waiting at h → is_wanted start unvisited h ≡ false
unwanted granted waiting start unvisited at none = unwanted_from_none start unvisited (edges_of at granted waiting) (sym none)

-- no edge: the search is back at the one above
pub loop_leaves : (granted waiting : List Lock) (start : ℕ) (unvisited path above : List ℕ) (at back : ℕ) → IsSearching (WaitsFor granted waiting) start unvisited path at → None ≡ next_edge start unvisited (edges_of at granted waiting) → path ≡ above ++ back ∷ [] → IsSearching (WaitsFor granted waiting) start unvisited above back
loop_leaves granted waiting start unvisited path above at back was none up =
    search_leaves (WaitsFor granted waiting) start unvisited above back at (subst (λ (p : List ℕ). IsSearching (WaitsFor granted waiting) start unvisited p at) up was) (unwanted granted waiting start unvisited at none)

pub order_leaves : (granted waiting : List Lock) (start : ℕ) (path above : List ℕ) (at back : ℕ) → IsOrdered start granted waiting (path_to path at) → path ≡ above ++ back ∷ [] → IsOrdered start granted waiting (path_to above back)
order_leaves granted waiting start path above at back ordered up =
    ordered_leaves granted waiting start above back at (subst (λ (p : List ℕ). IsOrdered start granted waiting (path_to p at)) up ordered)

-- no edge, and none above: no cycle goes through the start
pub loop_ended : (granted waiting : List Lock) (start : ℕ) (unvisited path : List ℕ) (at : ℕ) → IsSearching (WaitsFor granted waiting) start unvisited path at → None ≡ next_edge start unvisited (edges_of at granted waiting) → path ≡ [] → (cycle : List Edge) → IsCycleThrough start granted waiting cycle → ⊥
loop_ended granted waiting start unvisited path at was none empty cycle there =
    let top : IsSearching (WaitsFor granted waiting) start unvisited [] at = subst (λ (p : List ℕ). IsSearching (WaitsFor granted waiting) start unvisited p at) empty was in
    no_circle (WaitsFor granted waiting) (IsEdge granted waiting) (waits_by_edge granted waiting) start unvisited (search_ended (WaitsFor granted waiting) start unvisited at top (unwanted granted waiting start unvisited at none)) top.start_visited cycle there.circle.stand there.circle.closes there.through
