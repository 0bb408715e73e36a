-- Circles of edges: what their ends say of who waits for whom, and that none is missed where a search has ended.
use Rattle.std.specs.Prelude.{◌≡◌, ◌≢◌, ℕ, ◌<◌, ◌≤◌, false, List, [], ◌∷◌, length, All, Contains}
use Rattle.std.specs.List.{AllByRecursion}
use Rattle.std.proofs.Common.{arith, sym, ◌∙◌, ap, subst, get_or, zero, suc}
use Rattle.std.proofs.lemmas.List.{get_or_default, length-map}
use Rattle.std.proofs.lemmas.List.Elements.{recursion_from_All}
use Rattle.inno_types.specs.declared.lock.Edge.{Edge}
use Rattle.deadlock.specs.Cycles.{waiters, holders}
use Rattle.deadlock.specs.Steps.{is_among, is_wanted}
use Rattle.deadlock.proofs.Rounds.{IsRound, next_of, no_round}

-- edges that stand tell who waits for whom, place by place
ends_wait : (Waits : ℕ → ℕ → Type 0) (Stands : Edge → Type 0) → ((e : Edge) → Stands e → Waits e.waiter e.holder) → (cycle : List Edge) → AllByRecursion Stands cycle → (k : ℕ) → k < length cycle → Waits (get_or (waiters cycle) k 0) (get_or (holders cycle) k 0)
ends_wait Waits Stands waits [] stand k within = absurd (omega arith)
ends_wait Waits Stands waits (e ∷ cycle) stand zero within = waits e stand.0
ends_wait Waits Stands waits (e ∷ cycle) stand (suc k) within = ends_wait Waits Stands waits cycle stand.1 k (omega (arith, within))

round_of_edges : (Waits : ℕ → ℕ → Type 0) (Stands : Edge → Type 0) → ((e : Edge) → Stands e → Waits e.waiter e.holder) → (cycle : List Edge) → All Stands cycle → holders cycle ≡ next_of (waiters cycle) → IsRound Waits (waiters cycle)
round_of_edges Waits Stands waits cycle stand closes k within =
    subst (λ (ts : List ℕ). Waits (get_or (waiters cycle) k 0) (get_or ts k 0)) closes
    (ends_wait Waits Stands waits cycle (recursion_from_All Stands cycle stand) k (omega (arith, within, length-map cycle (λ (x : Edge). x.waiter))))

-- where the search has ended, no circle of edges goes through the transaction
pub no_circle : (Waits : ℕ → ℕ → Type 0) (Stands : Edge → Type 0) → ((e : Edge) → Stands e → Waits e.waiter e.holder) → (txn : ℕ) (unvisited : List ℕ) → ((v h : ℕ) → is_among v unvisited ≡ false → Waits v h → is_wanted txn unvisited h ≡ false) → is_among txn unvisited ≡ false → (cycle : List Edge) → All Stands cycle → holders cycle ≡ next_of (waiters cycle) → Contains (waiters cycle) txn → ⊥
no_circle Waits Stands waits txn unvisited ended start cycle stand closes through =
    no_round Waits txn unvisited (waiters cycle) ended start (round_of_edges Waits Stands waits cycle stand closes) through.0 through.1 (get_or_default (waiters cycle) through.0 0 txn through.1 ∙ through.2)

-- a circle of edges has at least two, since nobody waits for itself
pub circle_long : (Stands : Edge → Type 0) → ((e : Edge) → Stands e → e.waiter ≢ e.holder) → (cycle : List Edge) → All Stands cycle → holders cycle ≡ next_of (waiters cycle) → 0 < length cycle → 2 ≤ length cycle
circle_long Stands apart [] stand closes some = absurd (omega arith)
circle_long Stands apart (e ∷ []) stand closes some = absurd (apart e (stand 0 e (omega arith)) (sym (ap (λ (ts : List ℕ). get_or ts 0 0) closes)))
circle_long Stands apart (e ∷ f ∷ cycle) stand closes some = omega arith
