-- Which cycles of waits stand, and through whom they go.
use Rattle.std.specs.Prelude.{ℕ, ◌&&◌, List, map, filter, Contains}
use Rattle.inno_types.specs.declared.lock.Spot.{Spot}
use Rattle.inno_types.specs.declared.lock.Edge.{Edge}
use Rattle.inno_types.specs.declared.lock.Lock.{Lock}
use Rattle.lock_rules.specs.Kinds.{is_intent}
use Rattle.lock_rules.specs.Spots.{same_spot}
use Rattle.deadlock.specs.Cycles.{waiters, IsCycle}

-- nobody waits in a cycle
abbrev pub AreFree : List Lock → List Lock → Type 0
AreFree granted waiting = (cycle : List Edge) → ¬ IsCycle granted waiting cycle

-- the cycle goes through one of the transactions
pub record Meets (txns : List ℕ) (cycle : List Edge) : Type 0 where
  pub txn : ℕ
  pub listed : Contains txns txn
  pub waits : Contains (waiters cycle) txn

-- each cycle goes through one of them
abbrev pub AllMeet : List ℕ → List Lock → List Lock → Type 0
AllMeet txns granted waiting = (cycle : List Edge) → IsCycle granted waiting cycle → Meets txns cycle

-- those who wait to insert before the spot
abbrev pub inserters : Spot → List Lock → List ℕ
inserters spot waiting = map (λ asked. asked.txn) (filter (λ asked. is_intent asked.kind && same_spot asked.spot spot) waiting)
