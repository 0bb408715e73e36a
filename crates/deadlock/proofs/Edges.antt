-- The edges of a transaction as a search comes upon them: by the place of its request, lock by lock.
use Rattle.std.specs.Prelude.{◌≡◌, ℕ, ◌+◌, ◌<◌, ◌==◌, ◌&&◌, Bool, Option, Some, None, List, [], ◌∷◌, ◌++◌, length, take, map, filter, find, option_map, slice_index_or}
use Rattle.std.specs.List.{position_from}
use Rattle.std.specs.Option.{option_or, option_copied}
use Rattle.std.proofs.Common.{Bor, arith, sym, ◌∙◌, ap, refl, inl, inr, append_assoc, append-nil, suc}
use Rattle.std.proofs.lemmas.Bool.{cases_Bool}
use Rattle.std.proofs.lemmas.List.Folds.{find-append}
use Rattle.inno_types.specs.declared.lock.Edge.{Edge}
use Rattle.inno_types.specs.declared.lock.Lock.{Lock}
use Rattle.lock_rules.specs.Conflicts.{conflicts}
use Rattle.lock_table.specs.Queue.{edge_to, edges_of, edges_behind, blockers}
use Rattle.deadlock.specs.Steps.{is_wanted, next_edge}

-- where the first request of the transaction stands, its edges are those of that request
pub record IsPlaced (txn : ℕ) (held earlier queue : List Lock) (first place : ℕ) : Type 0 where
  pub steps : ℕ
  pub place_is : place ≡ first + steps
  pub within : steps < length queue
  pub edges : (d : Lock) → edges_behind txn held earlier queue ≡ map (edge_to txn) (blockers held (earlier ++ take steps queue) (slice_index_or queue steps d))

pub edges_placed : (txn : ℕ) (held earlier queue : List Lock) (first place : ℕ) → position_from (λ asked. asked.txn == txn) first queue ≡ Some place → IsPlaced txn held earlier queue first place
edges_placed txn held earlier [] first place e = absurd (cc)
edges_placed txn held earlier (asked ∷ queue) first place e =
    elim (cases_Bool (asked.txn == txn)) [
      | inl here ↦
          let at : Some first ≡ Some place = rw here at e in
          let same : first ≡ place = cc in
          record {
            steps = 0;
            place_is = omega (arith, same);
            within = omega arith;
            edges = λ d. rw (here, append-nil) refl;
          }
      | inr other ↦
          let rest : position_from (λ (lock : Lock). lock.txn == txn) (first + 1) queue ≡ Some place = rw other at e in
          let behind : IsPlaced txn held (earlier ++ asked ∷ []) queue (first + 1) place = edges_placed txn held (earlier ++ asked ∷ []) queue (first + 1) place rest in
          record {
            steps = suc behind.steps;
            place_is = omega (arith, behind.place_is);
            within = omega (arith, behind.within);
            edges = λ d. rw other (behind.edges d ∙ ap (λ (es : List Lock). map (edge_to txn) (blockers held es (slice_index_or queue behind.steps d))) (append_assoc earlier (asked ∷ []) (take behind.steps queue)));
          }
    ]

-- where no request of the transaction waits, it has no edges
pub edges_none : (txn : ℕ) (held earlier queue : List Lock) (first : ℕ) → position_from (λ asked. asked.txn == txn) first queue ≡ None → edges_behind txn held earlier queue ≡ []
edges_none txn held earlier [] first e = refl
edges_none txn held earlier (asked ∷ queue) first e =
    elim (cases_Bool (asked.txn == txn)) [
      | inl here ↦ let at : Some first ≡ None = rw here at e in absurd (cc)
      | inr other ↦
          let rest : position_from (λ (lock : Lock). lock.txn == txn) (first + 1) queue ≡ None = rw other at e in
          rw other (edges_none txn held (earlier ++ asked ∷ []) queue (first + 1) rest)
    ]

find-map : {A B : Type 0} (f : A → B) (test : B → Bool) (xs : List A) → find test (map f xs) ≡ option_map f (find (λ x. test (f x)) xs)
find-map f test [] = refl
find-map f test (x ∷ xs) = elim (cases_Bool (test (f x))) [ inl e ↦ rw e refl | inr e ↦ rw e (find-map f test xs) ]

find-filter : {A : Type 0} (kept test : A → Bool) (xs : List A) → find test (filter kept xs) ≡ find (λ x. kept x && test x) xs
find-filter kept test [] = refl
find-filter kept test (x ∷ xs) =
    elim (cases_Bool (kept x)) [
      | inl e ↦ rw e (elim (cases_Bool (test x)) [ inl t ↦ rw t refl | inr t ↦ rw t (find-filter kept test xs) ])
      | inr e ↦ rw e (find-filter kept test xs)
    ]

-- the first edge to a wanted transaction is that to the first lock of such a one
pub next_edge_at : (start : ℕ) (unvisited : List ℕ) (waiter : ℕ) (held earlier : List Lock) (asked : Lock) → next_edge start unvisited (map (edge_to waiter) (blockers held earlier asked)) ≡ option_map (edge_to waiter) (option_or (find (λ lock. conflicts lock asked && is_wanted start unvisited lock.txn) held) (find (λ lock. conflicts lock asked && is_wanted start unvisited lock.txn) earlier))
next_edge_at start unvisited waiter held earlier asked =
    find-map (edge_to waiter) (λ (e : Edge). is_wanted start unvisited e.holder) (blockers held earlier asked)
    ∙ ap (option_map (edge_to waiter))
    (find-append (λ (lock : Lock). is_wanted start unvisited lock.txn) (filter (λ (lock : Lock). conflicts lock asked) held) (filter (λ (lock : Lock). conflicts lock asked) earlier)
    ∙ ap (λ (r : Option Lock). option_or r (find (λ (lock : Lock). is_wanted start unvisited lock.txn) (filter (λ (lock : Lock). conflicts lock asked) earlier))) (find-filter (λ (lock : Lock). conflicts lock asked) (λ (lock : Lock). is_wanted start unvisited lock.txn) held)
    ∙ ap (option_or (find (λ (lock : Lock). conflicts lock asked && is_wanted start unvisited lock.txn) held)) (find-filter (λ (lock : Lock). conflicts lock asked) (λ (lock : Lock). is_wanted start unvisited lock.txn) earlier))

-- the request of the transaction is the one at its place
edges_at : (waiter place : ℕ) (granted waiting : List Lock) (asked : Lock) → Some place ≡ position_from (λ lock. lock.txn == waiter) 0 waiting → asked ≡ slice_index_or waiting place asked → edges_of waiter granted waiting ≡ map (edge_to waiter) (blockers granted (take place waiting) asked)
edges_at waiter place granted waiting asked at is =
    let placed : IsPlaced waiter granted [] waiting 0 place = edges_placed waiter granted [] waiting 0 place (sym at) in
    let same : placed.steps ≡ place = omega (arith, placed.place_is) in
    placed.edges asked ∙ rw same (ap (λ (lock : Lock). map (edge_to waiter) (blockers granted (take place waiting) lock)) (sym is))

-- where a granted lock is the first of a wanted transaction, the next edge leads to it
pub next_edge_granted : (start : ℕ) (unvisited : List ℕ) (waiter place : ℕ) (granted waiting : List Lock) (asked lock : Lock) → Some place ≡ position_from (λ lock. lock.txn == waiter) 0 waiting → asked ≡ slice_index_or waiting place asked → Some lock ≡ find (λ lock. conflicts lock asked && is_wanted start unvisited lock.txn) granted → Some (edge_to waiter lock) ≡ next_edge start unvisited (edges_of waiter granted waiting)
next_edge_granted start unvisited waiter place granted waiting asked lock at is found =
    let edges : edges_of waiter granted waiting ≡ map (edge_to waiter) (blockers granted (take place waiting) asked) = edges_at waiter place granted waiting asked at is in
    sym
    (ap (next_edge start unvisited) edges
    ∙ next_edge_at start unvisited waiter granted (take place waiting) asked
    ∙ ap (λ (r : Option Lock). option_map (edge_to waiter) (option_or r (find (λ (l : Lock). conflicts l asked && is_wanted start unvisited l.txn) (take place waiting)))) (sym found))

-- else it leads to the first such request before
pub next_edge_asked : (start : ℕ) (unvisited : List ℕ) (waiter place : ℕ) (granted waiting : List Lock) (asked : Lock) (found : Option Lock) → Some place ≡ position_from (λ lock. lock.txn == waiter) 0 waiting → asked ≡ slice_index_or waiting place asked → None ≡ find (λ lock. conflicts lock asked && is_wanted start unvisited lock.txn) granted → found ≡ find (λ lock. conflicts lock asked && is_wanted start unvisited lock.txn) (take place waiting) → option_map (edge_to waiter) found ≡ next_edge start unvisited (edges_of waiter granted waiting)
next_edge_asked start unvisited waiter place granted waiting asked found at is absent here =
    let edges : edges_of waiter granted waiting ≡ map (edge_to waiter) (blockers granted (take place waiting) asked) = edges_at waiter place granted waiting asked at is in
    sym
    (ap (next_edge start unvisited) edges
    ∙ next_edge_at start unvisited waiter granted (take place waiting) asked
    ∙ ap (λ (r : Option Lock). option_map (edge_to waiter) (option_or r (find (λ (l : Lock). conflicts l asked && is_wanted start unvisited l.txn) (take place waiting)))) (sym absent)
    ∙ ap (option_map (edge_to waiter)) (sym here))

-- where the transaction has no request, there is no next edge
pub next_edge_none : (start : ℕ) (unvisited : List ℕ) (waiter : ℕ) (granted waiting : List Lock) → None ≡ position_from (λ lock. lock.txn == waiter) 0 waiting → None ≡ next_edge start unvisited (edges_of waiter granted waiting)
next_edge_none start unvisited waiter granted waiting e = rw (edges_none waiter granted [] waiting 0 (sym e)) refl

-- an edge to the lock that a reference shows
pub edge_shown : (waiter : ℕ) (shown : Option (Bor Lock)) → option_map (λ x. edge_to waiter x.now) shown ≡ option_map (edge_to waiter) (option_copied shown)
edge_shown waiter None = refl
edge_shown waiter (Some x) = refl
