-- What an edge says of the lists, and how it is read off them. In a cycle each holder waits.
use Rattle.std.specs.Prelude.{◌≡◌, ℕ, ◌==◌, true, false, cond, List, [], ◌∷◌, ◌++◌, map, filter, take, drop}
use Rattle.std.proofs.Common.{◌⊎◌, zero, suc, inl, inr, refl, sym, ap, ◌∙◌, subst}
use Rattle.std.proofs.lemmas.Bool.{eq-eqb, eqb-true}
use Rattle.std.proofs.lemmas.List.Elements.{recursion_from_All, All-from_recursion}
use Rattle.inno_types.specs.declared.lock.Edge.{Edge}
use Rattle.inno_types.specs.declared.lock.Lock.{Lock}
use Rattle.lock_rules.specs.Conflicts.{conflicts}
use Rattle.lock_rules.proofs.Booleans.{split, true_false}
use Rattle.lock_table.specs.Queue.{edge_to, edges_behind, edges_of, blockers, is_waiting, AreSingle, IsEdge}
use Rattle.deadlock.specs.Cycles.{waiters, IsCycle}
use Rattle.law_locks.proofs.Members.{IsIn, IsBefore, in_from_contains, contains_from_in, in_front, in_behind, in_cases, in_filter, filter_in, all_in, in_all, before_in, in_map, map_in}
use Rattle.law_locks.proofs.Parts.{in_waits}

-- the waiter's request, and the lock that blocks it, granted or asked for earlier
pub record IsWait (granted waiting : List Lock) (e : Edge) : Type 0 where
  pub asked : Lock
  pub there : IsIn waiting asked
  pub own : asked.txn ≡ e.waiter
  pub is : edge_to e.waiter e.lock ≡ e
  pub blocks : conflicts e.lock asked ≡ true
  pub from : IsIn granted e.lock ⊎ IsBefore waiting e.lock asked

-- ---- from an edge

record IsBehind (txn : ℕ) (held earlier queue : List Lock) (e : Edge) : Type 0 where
  asked : Lock
  lock : Lock
  there : IsIn queue asked
  own : asked.txn ≡ txn
  is : edge_to txn lock ≡ e
  blocks : conflicts lock asked ≡ true
  from : IsIn held lock ⊎ (IsIn earlier lock ⊎ IsBefore queue lock asked)

of_blockers : (txn : ℕ) (held earlier : List Lock) (asked : Lock) (e : Edge) → IsIn (map (edge_to txn) (blockers held earlier asked)) e
    → (lock : Lock) × (edge_to txn lock ≡ e) × (conflicts lock asked ≡ true) × (IsIn held lock ⊎ IsIn earlier lock)
of_blockers txn held earlier asked e there =
    let found = map_in (edge_to txn) (blockers held earlier asked) e there in
    elim (in_cases (filter (λ lock. conflicts lock asked) held) (filter (λ lock. conflicts lock asked) earlier) found.0 found.1) [
      | inl granted ↦ let kept = in_filter (λ lock. conflicts lock asked) held found.0 granted in (found.0, found.2, kept.1, inl kept.0)
      | inr before ↦ let kept = in_filter (λ lock. conflicts lock asked) earlier found.0 before in (found.0, found.2, kept.1, inr kept.0)
    ]

behind : (txn : ℕ) (held earlier queue : List Lock) (e : Edge) → IsIn (edges_behind txn held earlier queue) e → IsBehind txn held earlier queue e
behind txn held earlier [] e there = absurd there
behind txn held earlier (asked ∷ queue) e there =
    split (asked.txn == txn)
    (λ here.
    let found = of_blockers txn held earlier asked e
    (subst (λ b. IsIn (cond b (map (edge_to txn) (blockers held earlier asked)) (edges_behind txn held (earlier ++ asked ∷ []) queue)) e) here there) in
    record {
      asked = asked;
      lock = found.0;
      there = inl refl;
      own = eqb-true asked.txn txn here;
      is = found.1;
      blocks = found.2;
      from = elim found.3 [ inl granted ↦ inl granted | inr before ↦ inr (inl before) ];
    })
    (λ other.
    let rest = behind txn held (earlier ++ asked ∷ []) queue e
    (subst (λ b. IsIn (cond b (map (edge_to txn) (blockers held earlier asked)) (edges_behind txn held (earlier ++ asked ∷ []) queue)) e) other there) in
    record {
      asked = rest.asked;
      lock = rest.lock;
      there = inr rest.there;
      own = rest.own;
      is = rest.is;
      blocks = rest.blocks;
      from = elim rest.from [
        | inl granted ↦ inl granted
        | inr later ↦ elim later [
          | inl before ↦ elim (in_cases earlier (asked ∷ []) rest.lock before) [
            | inl there ↦ inr (inl there)
            | inr this ↦ elim this [ inl same ↦ inr (inr (inl (same, rest.there))) | inr none ↦ absurd none ]
          ]
          | inr order ↦ inr (inr (inr order))
        ]
      ];
    })

pub wait_from_edge : (granted waiting : List Lock) (e : Edge) → IsEdge granted waiting e → IsWait granted waiting e
wait_from_edge granted waiting e stands =
    let found = behind e.waiter granted [] waiting e (in_from_contains _ e stands) in
    let lock : found.lock ≡ e.lock = ap (λ (f : Edge). f.lock) found.is in
    record {
      asked = found.asked;
      there = found.there;
      own = found.own;
      is = subst (λ (l : Lock). edge_to e.waiter l ≡ e) lock found.is;
      blocks = subst (λ (l : Lock). conflicts l found.asked ≡ true) lock found.blocks;
      from = elim found.from [
        | inl held ↦ inl (subst (IsIn granted) lock held)
        | inr later ↦ elim later [ inl none ↦ absurd none | inr order ↦ inr (subst (λ (l : Lock). IsBefore waiting l found.asked) lock order) ]
      ];
    }

-- ---- to an edge

to_blockers : (txn : ℕ) (held earlier : List Lock) (asked lock : Lock) → conflicts lock asked ≡ true → IsIn held lock ⊎ IsIn earlier lock
    → IsIn (map (edge_to txn) (blockers held earlier asked)) (edge_to txn lock)
to_blockers txn held earlier asked lock blocks from =
    in_map (edge_to txn) (blockers held earlier asked) lock
    (elim from [
      | inl granted ↦ in_front _ _ lock (filter_in (λ lock. conflicts lock asked) held lock granted blocks)
      | inr before ↦ in_behind (filter (λ lock. conflicts lock asked) held) _ lock (filter_in (λ lock. conflicts lock asked) earlier lock before blocks)
    ])

ahead : (txn : ℕ) (held earlier queue : List Lock) → AreSingle queue → (asked lock : Lock) → IsIn queue asked → asked.txn ≡ txn → conflicts lock asked ≡ true
    → IsIn held lock ⊎ (IsIn earlier lock ⊎ IsBefore queue lock asked) → IsIn (edges_behind txn held earlier queue) (edge_to txn lock)
ahead txn held earlier [] single asked lock there own blocks from = absurd there
ahead txn held earlier (w ∷ queue) single asked lock (inl here) own blocks from =
    subst (λ b. IsIn (cond b (map (edge_to txn) (blockers held earlier w)) (edges_behind txn held (earlier ++ w ∷ []) queue)) (edge_to txn lock))
    (sym (eq-eqb w.txn txn (ap (λ (l : Lock). l.txn) here ∙ own)))
    (to_blockers txn held earlier w lock (subst (λ (l : Lock). conflicts lock l ≡ true) (sym here) blocks)
    (elim from [
      | inl granted ↦ inl granted
      | inr later ↦ elim later [
        | inl before ↦ inr before
        | inr order ↦ absurd (elim order [ inl this ↦ twice this.1 | inr more ↦ twice (before_in queue lock asked more).1 ])
      ]
    ]))
  where
    twice : IsIn queue asked → ⊥
    twice again = true_false _ (subst (λ t. is_waiting t queue ≡ true) (sym (ap (λ (l : Lock). l.txn) here)) (in_waits queue asked again)) single.0
ahead txn held earlier (w ∷ queue) single asked lock (inr there) own blocks from =
    subst (λ b. IsIn (cond b (map (edge_to txn) (blockers held earlier w)) (edges_behind txn held (earlier ++ w ∷ []) queue)) (edge_to txn lock)) (sym apart)
    (ahead txn held (earlier ++ w ∷ []) queue single.1 asked lock there own blocks
    (elim from [
      | inl granted ↦ inl granted
      | inr later ↦ elim later [
        | inl before ↦ inr (inl (in_front earlier (w ∷ []) lock before))
        | inr order ↦ elim order [ inl this ↦ inr (inl (in_behind earlier (w ∷ []) lock (inl this.0))) | inr more ↦ inr (inr more) ]
      ]
    ]))
  where
    apart : (w.txn == txn) ≡ false
    apart = split (w.txn == txn)
        (λ same. absurd (true_false _ (subst (λ t. is_waiting t queue ≡ true) (own ∙ sym (eqb-true w.txn txn same)) (in_waits queue asked there)) single.0))
        (λ other. other)

pub edge_from_wait : (granted waiting : List Lock) (e : Edge) → AreSingle waiting → IsWait granted waiting e → IsEdge granted waiting e
edge_from_wait granted waiting e single wait =
    contains_from_in _ e
    (subst (IsIn (edges_of e.waiter granted waiting)) wait.is
    (ahead e.waiter granted [] waiting single wait.asked e.lock wait.there wait.own wait.blocks
    (elim wait.from [ inl held ↦ inl held | inr order ↦ inr (inr order) ])))

-- ---- in a cycle

take_in : (k : ℕ) (xs : List ℕ) (x : ℕ) → IsIn (take k xs) x → IsIn xs x
take_in zero xs x there = absurd there
take_in (suc k) [] x there = absurd there
take_in (suc k) (y ∷ xs) x there = elim there [ inl here ↦ inl here | inr rest ↦ inr (take_in k xs x rest) ]

drop_in : (xs : List ℕ) (x : ℕ) → IsIn (drop 1 xs) x → IsIn xs x
drop_in [] x there = absurd there
drop_in (y ∷ xs) x there = inr there

module _ (granted waiting : List Lock) (cycle : List Edge) (is : IsCycle granted waiting cycle) where
  stand : (e : Edge) → IsIn cycle e → IsWait granted waiting e
  stand e there = wait_from_edge granted waiting e (all_in (IsEdge granted waiting) cycle e (recursion_from_All (IsEdge granted waiting) cycle is.stand) there)

  pub waiters_wait : (txn : ℕ) → IsIn (waiters cycle) txn → is_waiting txn waiting ≡ true
  waiters_wait txn there =
      let found = map_in (λ (e : Edge). e.waiter) cycle txn there in
      let wait = stand found.0 found.1 in
      subst (λ t. is_waiting t waiting ≡ true) (wait.own ∙ found.2) (in_waits waiting wait.asked wait.there)

  pub holder_waits : (e : Edge) → IsIn cycle e → is_waiting e.holder waiting ≡ true
  holder_waits e there =
      waiters_wait e.holder
      (elim (in_cases (drop 1 (waiters cycle)) (take 1 (waiters cycle)) e.holder
      (subst (λ (ts : List ℕ). IsIn ts e.holder) is.closes (in_map (λ (f : Edge). f.holder) cycle e there))) [
        | inl behind ↦ drop_in (waiters cycle) e.holder behind
        | inr first ↦ take_in 1 (waiters cycle) e.holder first
      ])

  -- where each of its edges stands in other lists, so does the cycle
  pub elsewhere : (old_granted old_waiting : List Lock) → AreSingle old_waiting
      → ((e : Edge) → IsIn cycle e → IsWait granted waiting e → is_waiting e.holder waiting ≡ true → IsWait old_granted old_waiting e)
      → IsCycle old_granted old_waiting cycle
  elsewhere old_granted old_waiting single each = record {
    stand = All-from_recursion (IsEdge old_granted old_waiting) cycle (in_all (IsEdge old_granted old_waiting) cycle
        (λ e there. edge_from_wait old_granted old_waiting e single (each e there (stand e there) (holder_waits e there))));
    long = is.long;
    apart = is.apart;
    closes = is.closes;
  }
