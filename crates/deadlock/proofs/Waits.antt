-- Who waits for whom, read off the edges.
use Rattle.std.specs.Prelude.{◌≡◌, ◌≢◌, ℕ, ◌==◌, ◌||◌, not, Bool, true, false, Some, None, List, [], ◌∷◌, ◌++◌, map, filter, Contains}
use Rattle.std.specs.List.{list_any}
use Rattle.std.proofs.Common.{arith, sym, ◌∙◌, ap, refl, inl, inr, subst, suc}
use Rattle.std.proofs.lemmas.Bool.{cases_Bool, false≢true, eqb-true, eq-eqb, or_from, or_left, or_right, both_ways, and_parts, not-true}
use Rattle.std.proofs.lemmas.List.Folds.{list_any-append, list_any_at}
use Rattle.inno_types.specs.declared.lock.Edge.{Edge}
use Rattle.inno_types.specs.declared.lock.Lock.{Lock}
use Rattle.lock_rules.specs.Conflicts.{conflicts}
use Rattle.lock_table.specs.Queue.{edge_to, edges_of, edges_behind, blockers, IsEdge}
use Rattle.deadlock.specs.Steps.{is_among, is_wanted, next_edge, WaitsFor}

-- where no edge leads to a wanted transaction, none of the holders is wanted
pub unwanted_from_none : (start : ℕ) (unvisited : List ℕ) (edges : List Edge) → next_edge start unvisited edges ≡ None → (h : ℕ) → list_any (λ e. e.holder == h) edges ≡ true → is_wanted start unvisited h ≡ false
unwanted_from_none start unvisited [] none h leads = absurd (false≢true leads)
unwanted_from_none start unvisited (e ∷ edges) none h leads =
    elim (cases_Bool (is_wanted start unvisited e.holder)) [
      | inl wanted ↦ let bad : Some e ≡ None = rw wanted at none in absurd (cc)
      | inr unwanted ↦
          elim (cases_Bool (e.holder == h)) [
            | inl same ↦ subst (λ z. is_wanted start unvisited z ≡ false) (eqb-true e.holder h same) unwanted
            | inr other ↦ unwanted_from_none start unvisited edges (rw unwanted at none) h (rw other at leads)
          ]
    ]

-- the edge found is one of them, and leads to a wanted transaction
pub record IsNext (start : ℕ) (unvisited : List ℕ) (edges : List Edge) (e : Edge) : Type 0 where
  pub wanted : is_wanted start unvisited e.holder ≡ true
  pub leads : list_any (λ f. f.holder == e.holder) edges ≡ true
  pub there : Contains edges e

pub next_from_some : (start : ℕ) (unvisited : List ℕ) (edges : List Edge) (e : Edge) → next_edge start unvisited edges ≡ Some e → IsNext start unvisited edges e
next_from_some start unvisited [] e some = absurd (cc)
next_from_some start unvisited (f ∷ edges) e some =
    elim (cases_Bool (is_wanted start unvisited f.holder)) [
      | inl wanted ↦
          let is : Some f ≡ Some e = rw wanted at some in
          let same : f ≡ e = cc in
          subst (IsNext start unvisited (f ∷ edges)) same (record { wanted = wanted; leads = or_left (f.holder == f.holder) (list_any (λ (g : Edge). g.holder == f.holder) edges) (eq-eqb f.holder f.holder refl); there = (0, omega arith, refl) })
      | inr unwanted ↦
          let rest : IsNext start unvisited edges e = next_from_some start unvisited edges e (rw unwanted at some) in
          record {
            wanted = rest.wanted;
            leads = or_right (f.holder == e.holder) (list_any (λ (g : Edge). g.holder == e.holder) edges) rest.leads;
            there = (suc rest.there.0, omega (arith, rest.there.1), rest.there.2);
          }
    ]

-- only those with a request have edges
pub waits_among : (txn h : ℕ) (held earlier queue : List Lock) → list_any (λ e. e.holder == h) (edges_behind txn held earlier queue) ≡ true → is_among txn (map (λ asked. asked.txn) queue) ≡ true
waits_among txn h held earlier [] leads = absurd (false≢true leads)
waits_among txn h held earlier (asked ∷ queue) leads =
    elim (cases_Bool (asked.txn == txn)) [ inl here ↦ rw here refl | inr other ↦ rw other (waits_among txn h held (earlier ++ asked ∷ []) queue (rw other at leads)) ]

-- an edge that stands tells that its waiter waits for its holder
pub waits_by_edge : (granted waiting : List Lock) (e : Edge) → IsEdge granted waiting e → WaitsFor granted waiting e.waiter e.holder
waits_by_edge granted waiting e stands = list_any_at (λ (f : Edge). f.holder == e.holder) (edges_of e.waiter granted waiting) stands.0 e stands.1 (eq-eqb _ _ (ap (λ (f : Edge). f.holder) stands.2))

-- nobody waits for itself
none_own : (asked : Lock) (locks : List Lock) → list_any (λ lock. lock.txn == asked.txn) (filter (λ lock. conflicts lock asked) locks) ≡ false
none_own asked [] = refl
none_own asked (lock ∷ locks) =
    elim (cases_Bool (conflicts lock asked)) [
      | inl blocks ↦
          let other : not (lock.txn == asked.txn) ≡ true = (and_parts _ _ (and_parts _ _ blocks).0).0 in
          rw blocks (or_from (lock.txn == asked.txn) (list_any (λ (l : Lock). l.txn == asked.txn) (filter (λ (l : Lock). conflicts l asked) locks)) (not-true (lock.txn == asked.txn) other) (none_own asked locks))
      | inr free ↦ rw free (none_own asked locks)
    ]

list_any-map : {A B : Type 0} (f : A → B) (test : B → Bool) (xs : List A) → list_any test (map f xs) ≡ list_any (λ x. test (f x)) xs
list_any-map f test [] = refl
list_any-map f test (x ∷ xs) = ap (λ b. test (f x) || b) (list_any-map f test xs)

no_own_edge : (txn : ℕ) (held earlier queue : List Lock) → list_any (λ e. e.holder == txn) (edges_behind txn held earlier queue) ≡ false
no_own_edge txn held earlier [] = refl
no_own_edge txn held earlier (asked ∷ queue) =
    elim (cases_Bool (asked.txn == txn)) [
      | inl here ↦
          rw here
          (list_any-map (edge_to txn) (λ (e : Edge). e.holder == txn) (blockers held earlier asked)
          ∙ list_any-append (λ (l : Lock). l.txn == txn) (filter (λ (l : Lock). conflicts l asked) held) (filter (λ (l : Lock). conflicts l asked) earlier)
          ∙ subst (λ t. (list_any (λ (l : Lock). l.txn == t) (filter (λ (l : Lock). conflicts l asked) held) || list_any (λ (l : Lock). l.txn == t) (filter (λ (l : Lock). conflicts l asked) earlier)) ≡ false) (eqb-true asked.txn txn here) (or_from _ _ (none_own asked held) (none_own asked earlier)))
      | inr other ↦ rw other (no_own_edge txn held (earlier ++ asked ∷ []) queue)
    ]

pub apart_by_edge : (granted waiting : List Lock) (e : Edge) → IsEdge granted waiting e → e.waiter ≢ e.holder
apart_by_edge granted waiting e stands same =
    both_ways (list_any (λ (f : Edge). f.holder == e.waiter) (edges_of e.waiter granted waiting)) (no_own_edge e.waiter granted [] waiting) (subst (λ h. list_any (λ (f : Edge). f.holder == h) (edges_of e.waiter granted waiting) ≡ true) (sym same) (waits_by_edge granted waiting e stands))
