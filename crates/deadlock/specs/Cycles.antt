-- What a cycle of waits is.
use Rattle.std.specs.Prelude.{◌≡◌, ℕ, ◌≤◌, List, [], ◌∷◌, ◌++◌, length, take, drop, map, nat_eq, slice_index, All, Contains}
use Rattle.std.specs.List.{IsDistinct}
use Rattle.inno_types.specs.declared.lock.Edge.{Edge}
use Rattle.inno_types.specs.declared.lock.Lock.{Lock}
use Rattle.lock_table.specs.Keys.{IsShort}
use Rattle.lock_table.specs.Queue.{edges_of, IsEdge}
use Rattle.deadlock.specs.declared.cycle.Cycle.{Cycle}

-- the transactions of a cycle: each of them waits
abbrev pub waiters : List Edge → List ℕ
waiters cycle = map (λ e. e.waiter) cycle

abbrev pub holders : List Edge → List ℕ
holders cycle = map (λ e. e.holder) cycle

-- two or more edges with distinct waiters, each edge's holder being the next one's waiter, and the last one's holder
-- the first one's waiter
pub record IsCycle (granted waiting : List Lock) (cycle : List Edge) : Type 0 where
  pub stand : All (IsEdge granted waiting) cycle
  pub long : 2 ≤ length cycle
  pub apart : IsDistinct nat_eq (waiters cycle)
  pub closes : holders cycle ≡ drop 1 (waiters cycle) ++ take 1 (waiters cycle)

pub record IsCycleThrough (txn : ℕ) (granted waiting : List Lock) (cycle : List Edge) : Type 0 where
  pub circle : IsCycle granted waiting cycle
  pub through : Contains (waiters cycle) txn

-- no cycle goes through the transaction
abbrev pub HasNoCycle : ℕ → List Lock → List Lock → Type 0
HasNoCycle txn granted waiting = (cycle : List Edge) → ¬ IsCycleThrough txn granted waiting cycle

-- no cycle begins with these edges
abbrev pub HasNoCycleOn : List Lock → List Lock → List Edge → Type 0
HasNoCycleOn granted waiting front = (rest : List Edge) → ¬ IsCycle granted waiting (front ++ rest)

-- behind these edges the next one is followed first: along no earlier edge of its waiter does a cycle go on from there
pub record IsFollowedFirst (granted waiting : List Lock) (front : List Edge) (edge : Edge) : Type 0 where
  pub earlier : List Edge
  pub later : List Edge
  pub in_order : edges_of edge.waiter granted waiting ≡ earlier ++ edge ∷ later
  pub no_cycle : All (λ e. HasNoCycleOn granted waiting (front ++ e ∷ [])) earlier

-- the first cycle that a depth-first search from the transaction meets
pub record IsDepthFirst (txn : ℕ) (granted waiting : List Lock) (cycle : List Edge) : Type 0 where
  pub begins : slice_index (waiters cycle) 0 ≡ txn
  pub first : (front back : List Edge) (edge : Edge) → cycle ≡ front ++ edge ∷ back → IsFollowedFirst granted waiting front edge

-- the key of each lock is no longer than the longest key
abbrev pub AreShort : List Edge → Type 0
AreShort edges = All (λ e. IsShort e.lock.spot.key) edges

-- the two copies are the cycle
pub record AreCopies (cycle : Cycle) : Type 0 where
  pub first_copy : cycle.first_copy ≡ cycle.edges
  pub second_copy : cycle.second_copy ≡ cycle.edges
