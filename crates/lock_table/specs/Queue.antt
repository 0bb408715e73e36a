-- First come, first served: granted locks in order of grant, and requests that wait, in order.
use Rattle.std.specs.Prelude.{◌≡◌, ℕ, Bool, true, false, ◌==◌, ◌||◌, not, if◌then◌else◌, List, [], ◌∷◌, ◌++◌, map, filter, Contains}
use Rattle.std.specs.List.{list_any, AllByRecursion}
use Rattle.inno_types.specs.declared.lock.Lock.{Lock}
use Rattle.inno_types.specs.declared.lock.Edge.{Edge}
use Rattle.lock_rules.specs.Kinds.{is_intent}
use Rattle.lock_rules.specs.Conflicts.{conflicts, covers, same_lock}
use Rattle.lock_rules.specs.Rules.{FitsItsRule}

pub record Lists : Type 0 where
  -- in order of grant
  pub granted : List Lock
  -- in order of request
  pub waiting : List Lock

-- the locks for which a request waits: granted ones in order of grant, then earlier requests in order
abbrev pub blockers : List Lock → List Lock → Lock → List Lock
blockers held earlier asked = filter (λ lock. conflicts lock asked) held ++ filter (λ lock. conflicts lock asked) earlier

-- a request waits for conflicting granted locks of others and for conflicting earlier requests of others
abbrev pub is_blocked : List Lock → List Lock → Lock → Bool
is_blocked held earlier asked = list_any (λ lock. conflicts lock asked) held || list_any (λ lock. conflicts lock asked) earlier

-- each request in order is granted, unless a granted lock or an earlier request that still waits blocks it
abbrev pub serve : List Lock → List Lock → List Lock → Lists
serve held earlier [] = record { granted = held; waiting = earlier }
serve held earlier (asked ∷ queue) =
    if is_blocked held earlier asked then serve held (earlier ++ asked ∷ []) queue else serve (held ++ asked ∷ []) earlier queue

-- one granted lock of the transaction covers the request
abbrev pub is_covered : List Lock → Lock → Bool
is_covered held asked = list_any (λ lock. covers lock asked) held

abbrev pub edge_to : ℕ → Lock → Edge
edge_to waiter lock = record { waiter = waiter; holder = lock.txn; lock = lock }

-- the edges of a transaction whose request waits behind the earlier ones, in the order of what it waits for
abbrev pub edges_behind : ℕ → List Lock → List Lock → List Lock → List Edge
edges_behind txn held earlier [] = []
edges_behind txn held earlier (asked ∷ queue) =
    if asked.txn == txn then map (edge_to txn) (blockers held earlier asked) else edges_behind txn held (earlier ++ asked ∷ []) queue

abbrev pub edges_of : ℕ → List Lock → List Lock → List Edge
edges_of txn granted waiting = edges_behind txn granted [] waiting

-- a transaction that waits, and a lock of another that is granted, or asked for earlier, and blocks its request
abbrev pub IsEdge : List Lock → List Lock → Edge → Type 0
IsEdge granted waiting edge = Contains (edges_of edge.waiter granted waiting) edge

-- the transaction has a request that waits
abbrev pub is_waiting : ℕ → List Lock → Bool
is_waiting txn waiting = list_any (λ asked. asked.txn == txn) waiting

-- the transaction is one of these
abbrev pub is_among : ℕ → List ℕ → Bool
is_among txn txns = list_any (λ other. other == txn) txns

-- nobody who waits is one of these
abbrev pub AreOthers : List ℕ → List Lock → Type 0
AreOthers txns waiting = AllByRecursion (λ asked. is_among asked.txn txns ≡ false) waiting

-- the locks of the other transactions
abbrev pub without : ℕ → List Lock → List Lock
without txn locks = filter (λ lock. not (lock.txn == txn)) locks

-- the other locks
abbrev pub without_lock : Lock → List Lock → List Lock
without_lock gone locks = filter (λ lock. not (same_lock lock gone)) locks

-- no transaction has two requests
abbrev pub AreSingle : List Lock → Type 0
AreSingle [] = Unit {0}
AreSingle (asked ∷ queue) = (is_waiting asked.txn queue ≡ false) × AreSingle queue

-- each request is blocked
abbrev pub AreBlocked : List Lock → List Lock → List Lock → Type 0
AreBlocked held earlier [] = Unit {0}
AreBlocked held earlier (asked ∷ queue) = (is_blocked held earlier asked ≡ true) × AreBlocked held (earlier ++ asked ∷ []) queue

-- the two may be held side by side: they don't conflict, or one is an insert intention, beside which a gap lock was granted
abbrev pub stands_beside : Lock → Lock → Bool
stands_beside held lock = is_intent lock.kind || not (conflicts held lock)

abbrev pub AreApart : List Lock → Type 0
AreApart granted = AllByRecursion (λ held. AllByRecursion (λ lock. stands_beside held lock ≡ true) granted) granted

-- the facts of the lists
pub record AreSound (granted waiting : List Lock) : Type 0 where
  pub single : AreSingle waiting
  pub blocked : AreBlocked granted [] waiting
  pub apart : AreApart granted
  pub granted_fit : AllByRecursion FitsItsRule granted
  pub waiting_fit : AllByRecursion FitsItsRule waiting
