-- The steps of a depth-first search over those who wait.
use Rattle.std.specs.Prelude.{◌≡◌, ℕ, ◌+◌, ◌<◌, ◌==◌, ◌||◌, if◌then◌else◌, not, Bool, true, false, Option, List, [], ◌∷◌, ◌++◌, length, take, drop, filter, find, nat_eq, slice_index}
use Rattle.std.specs.List.{list_any, IsDistinct, AllByRecursion}
use Rattle.inno_types.specs.declared.lock.Edge.{Edge}
use Rattle.inno_types.specs.declared.lock.Lock.{Lock}
use Rattle.lock_table.specs.Queue.{edges_of, IsEdge}

abbrev pub is_among : ℕ → List ℕ → Bool
is_among txn txns = list_any (λ other. other == txn) txns

abbrev pub without : ℕ → List ℕ → List ℕ
without txn txns = filter (λ other. not (other == txn)) txns

-- the search wants to come back to where it began, or to get to a transaction where it has not been
abbrev pub is_wanted : ℕ → List ℕ → ℕ → Bool
is_wanted start unvisited holder = holder == start || is_among holder unvisited

-- the first edge to a transaction that is wanted: first in the order of the granted locks, then of the requests
abbrev pub next_edge : ℕ → List ℕ → List Edge → Option Edge
next_edge start unvisited edges = find (λ e. is_wanted start unvisited e.holder) edges

-- the edges before the first one to the transaction
abbrev pub edges_before : ℕ → List Edge → List Edge
edges_before holder [] = []
edges_before holder (e ∷ edges) = if e.holder == holder then [] else e ∷ edges_before holder edges

-- the edges lead from the one transaction to the other
abbrev pub IsChain : ℕ → List Edge → ℕ → Type 0
IsChain from [] to = from ≡ to
IsChain from (e ∷ edges) to = (e.waiter ≡ from) × IsChain e.holder edges to

-- no edges lead from the transaction back to the start that keep off these transactions
abbrev pub IsBarred : ℕ → List Lock → List Lock → List ℕ → ℕ → Type 0
IsBarred start granted waiting path txn =
    (way : List Edge) → AllByRecursion (IsEdge granted waiting) way → AllByRecursion (λ e. is_among e.waiter path ≡ false) way → ¬ IsChain txn way start

-- from no edge before the first one to the holder a way leads back that keeps off the path
abbrev pub IsInOrder : ℕ → List Lock → List Lock → List ℕ → ℕ → ℕ → Type 0
IsInOrder start granted waiting path waiter holder =
    AllByRecursion (λ e. IsBarred start granted waiting path e.holder) (edges_before holder (edges_of waiter granted waiting))

-- some edge leads from the one to the other
abbrev pub WaitsFor : List Lock → List Lock → ℕ → ℕ → Type 0
WaitsFor granted waiting waiter holder = list_any (λ e. e.holder == holder) (edges_of waiter granted waiting) ≡ true

-- the transactions of a cycle in order: each waits for the next one, and the last one for the first
pub record IsWayRound (start : ℕ) (granted waiting : List Lock) (path : List ℕ) : Type 0 where
  pub some : 0 < length path
  pub begins : slice_index path 0 ≡ start
  pub apart : IsDistinct nat_eq path
  pub waits : (k : ℕ) → k < length path → WaitsFor granted waiting (slice_index path k) (slice_index (drop 1 path ++ take 1 path) k)
  pub in_order : (k : ℕ) → k < length path → IsInOrder start granted waiting (take (k + 1) path) (slice_index path k) (slice_index (drop 1 path ++ take 1 path) k)
