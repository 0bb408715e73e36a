-- The locks of places, as places are added, emptied and filled.
use Rattle.std.proofs.Common.{◌≡◌, ℕ, zero, suc, ◌+◌, ◌<◌, ◌≤◌, Bool, true, false, cond, List, [], ◌∷◌, ◌++◌, inl, inr, length, take, drop, set, get_or, map, refl, sym, ap, ◌∙◌, arith, length-append}
use Rattle.std.specs.Prelude.{◌==◌, ◌||◌, not, Option, None, Some, is_some, filter}
use Rattle.std.specs.List.{list_any}
use Rattle.std.proofs.lemmas.Bool.{cases_lt}
use Rattle.std.proofs.lemmas.List.{set_split, set-get_or, get_or_past, get_or-set_same, get_or-set_other}
use Rattle.std.proofs.lemmas.List.Folds.{list_any_at}
use Rattle.std.specs.Prelude.{IfSome, IfNone, IsSome}
use Rattle.inno_types.specs.declared.lock.Lock.{Lock}
use Rattle.lock_rules.proofs.Booleans.{or_false}
use Rattle.lock_lists.specs.Places.{locks_of, holds_at, is_of, IsFirst, HasNoneFrom, IsLastSuch}

pub any_places : (test : Lock → Bool) (places : List (Option Lock)) → list_any (holds_at test) places ≡ list_any test (locks_of places)
any_places test [] = refl
any_places test (None ∷ places) = any_places test places
any_places test (Some lock ∷ places) = ap (λ b. test lock || b) (any_places test places)

pub none_any : {A : Type 0} (test : A → Bool) (xs : List A) (d : A) → ((i : ℕ) → i < length xs → test (get_or xs i d) ≡ false) → list_any test xs ≡ false
none_any test [] d fails = refl
none_any test (x ∷ xs) d fails = or_false (test x) (list_any test xs) (fails 0 (omega arith)) (none_any test xs d (λ i lt. fails (suc i) (omega (arith, lt))))

pub locks_append : (xs ys : List (Option Lock)) → locks_of (xs ++ ys) ≡ locks_of xs ++ locks_of ys
locks_append [] ys = refl
locks_append (None ∷ xs) ys = locks_append xs ys
locks_append (Some lock ∷ xs) ys = ap (λ ls. lock ∷ ls) (locks_append xs ys)

-- the places cut at one that is set
pub locks_set : (places : List (Option Lock)) (place : ℕ) (x : Option Lock) → place < length places
    → locks_of (set places place x) ≡ locks_of (take place places) ++ locks_of (x ∷ drop (suc place) places)
locks_set places place x lt = ap locks_of (set_split places place x lt) ∙ locks_append (take place places) (x ∷ drop (suc place) places)

-- and at one as it is
pub locks_cut : (places : List (Option Lock)) (place : ℕ) (x : Option Lock) → place < length places → get_or places place None ≡ x
    → locks_of places ≡ locks_of (take place places) ++ locks_of (x ∷ drop (suc place) places)
locks_cut places place x lt is = ap locks_of (sym (set-get_or places place None)) ∙ ap (λ y. locks_of (set places place y)) is ∙ locks_set places place x lt

-- one lock fewer
pub count_off : (places : List (Option Lock)) (place : ℕ) (lock : Lock) → place < length places → get_or places place None ≡ Some lock
    → length (locks_of (set places place None)) + 1 ≡ length (locks_of places)
count_off places place lock lt is =
    let before = locks_of (take place places) in
    let behind = locks_of (drop (suc place) places) in
    omega (arith, ap length (locks_set places place None lt), ap length (locks_cut places place (Some lock) lt is), length-append before behind, length-append before (lock ∷ behind))

-- as many as before
pub count_same : (places : List (Option Lock)) (place : ℕ) (held lock : Lock) → place < length places → get_or places place None ≡ Some held
    → length (locks_of (set places place (Some lock))) ≡ length (locks_of places)
count_same places place held lock lt is =
    let before = locks_of (take place places) in
    let behind = locks_of (drop (suc place) places) in
    omega (
      arith,
      ap length (locks_set places place (Some lock) lt),
      ap length (locks_cut places place (Some held) lt is),
      length-append before (held ∷ behind),
      length-append before (lock ∷ behind),
    )

pub few_locks : (places : List (Option Lock)) → length (locks_of places) ≤ length places
few_locks [] = omega arith
few_locks (None ∷ places) = omega (arith, few_locks places)
few_locks (Some lock ∷ places) = omega (arith, few_locks places)

pub some_lock : (place : Option Lock) → IsSome place → (lock : Lock) × (place ≡ Some lock)
some_lock None is = absurd (cc is)
some_lock (Some lock) is = (lock, refl)

pub held_lock : (test : Lock → Bool) (place : Option Lock) → holds_at test place ≡ true → (lock : Lock) × (place ≡ Some lock) × (test lock ≡ true)
held_lock test None is = absurd (cc is)
held_lock test (Some lock) is = (lock, refl, is)

pub inside_locks : (places : List (Option Lock)) (place : ℕ) (lock : Lock) → get_or places place None ≡ Some lock → place < length places
inside_locks places place lock is = elim (cases_lt place (length places)) [
  | inl lt ↦ lt
  | inr past ↦ absurd (cc (get_or_past places place None past, is))
]

-- the answer to a question
pub any_from : (test : Lock → Bool) (places : List (Option Lock)) (found : Option ℕ) → IfSome found (λ place. IsFirst test places 0 place) → IfNone found (HasNoneFrom test places 0)
    → is_some found ≡ list_any test (locks_of places)
any_from test places None first none =
    sym (sym (any_places test places) ∙ none_any (holds_at test) places None (λ i lt. none.none i (omega arith) lt))
any_from test places (Some place) first none = sym (sym (any_places test places) ∙ list_any_at (holds_at test) places place None first.within first.there)

-- the places that are not empty
pub packed : (places : List (Option Lock)) → filter (λ p. is_some p) places ≡ map Some (locks_of places)
packed [] = refl
packed (None ∷ places) = packed places
packed (Some lock ∷ places) = ap (λ ps. Some lock ∷ ps) (packed places)

pub locks_packed : (locks : List Lock) → locks_of (map Some locks) ≡ locks
locks_packed [] = refl
locks_packed (lock ∷ locks) = ap (λ ls. lock ∷ ls) (locks_packed locks)

-- where places are packed, none is empty
pub full_of : (places : List (Option Lock)) (locks : List Lock) → places ≡ map Some locks → places ≡ map Some (locks_of places)
full_of places locks is = is ∙ ap (map Some) (sym (ap locks_of is ∙ locks_packed locks))

pub long_packed : (locks : List Lock) → length (map Some locks) ≡ length locks
long_packed [] = refl
long_packed (lock ∷ locks) = omega (arith, long_packed locks)

pub none_empty : (locks : List Lock) (i : ℕ) → i < length (map Some locks) → get_or (map Some locks) i None ≡ None → ⊥
none_empty [] i lt is = omega (arith, lt)
none_empty (lock ∷ locks) zero lt is = cc
none_empty (lock ∷ locks) (suc i) lt is = none_empty locks i (omega (arith, lt)) is

dropped : (test : Lock → Bool) (front : List Lock) (x : Lock) (back : List Lock) → test x ≡ false → filter test (front ++ x ∷ back) ≡ filter test (front ++ back)
dropped test [] x back fails = ap (λ b. cond b (x ∷ filter test back) (filter test back)) fails
dropped test (y ∷ front) x back fails = ap (λ ls. cond (test y) (y ∷ ls) ls) (dropped test front x back fails)

-- a lock of the transaction goes
pub others_stay : (txn : ℕ) (places : List (Option Lock)) (place : ℕ) (lock : Lock) → place < length places → get_or places place None ≡ Some lock → is_of txn lock ≡ true
    → filter (λ l. not (l.txn == txn)) (locks_of (set places place None)) ≡ filter (λ l. not (l.txn == txn)) (locks_of places)
others_stay txn places place lock lt is own =
    ap (filter (λ l. not (l.txn == txn))) (locks_set places place None lt)
    ∙ sym (ap (filter (λ l. not (l.txn == txn))) (locks_cut places place (Some lock) lt is)
    ∙ dropped (λ l. not (l.txn == txn)) (locks_of (take place places)) lock (locks_of (drop (suc place) places)) (ap not own))

-- where none is left
pub only_others : (txn : ℕ) (places : List (Option Lock)) → ((i : ℕ) → i < length places → holds_at (is_of txn) (get_or places i None) ≡ false)
    → filter (λ l. not (l.txn == txn)) (locks_of places) ≡ locks_of places
only_others txn [] fails = refl
only_others txn (None ∷ places) fails = only_others txn places (λ i lt. fails (suc i) (omega (arith, lt)))
only_others txn (Some lock ∷ places) fails =
    let rest = filter (λ l. not (l.txn == txn)) (locks_of places) in
    ap (λ b. cond (not b) (lock ∷ rest) rest) (fails 0 (omega arith))
    ∙ ap (λ ls. lock ∷ ls) (only_others txn places (λ i lt. fails (suc i) (omega (arith, lt))))

-- one more place is emptied at the end of a transaction
module _ (txn : ℕ) (places : List (Option Lock)) (limit place : ℕ) (last : IsLastSuch (is_of txn) places limit place)
    (behind : (i : ℕ) → limit ≤ i → holds_at (is_of txn) (get_or places i None) ≡ false) where
  pub lock_there : (lock : Lock) × (get_or places place None ≡ Some lock) × (is_of txn lock ≡ true)
  lock_there = held_lock (is_of txn) (get_or places place None) last.there

  pub emptied_behind : (i : ℕ) → place ≤ i → holds_at (is_of txn) (get_or (set places place None) i None) ≡ false
  emptied_behind i from = elim (cases_lt place i) [
    | inl past ↦ ap (holds_at (is_of txn)) (get_or-set_other places place i None None (λ same. absurd (omega (arith, past, same)))) ∙ elim (cases_lt i limit) [
      | inl below ↦ last.behind i past below
      | inr beyond ↦ behind i beyond
    ]
    | inr upto ↦
        let at : i ≡ place = omega (arith, from, upto) in
        ap (λ n. holds_at (is_of txn) (get_or (set places place None) n None)) at
        ∙ ap (holds_at (is_of txn)) (get_or-set_same places place None None (inside_locks places place lock_there.0 lock_there.1))
  ]

  pub emptied_others : filter (λ l. not (l.txn == txn)) (locks_of (set places place None)) ≡ filter (λ l. not (l.txn == txn)) (locks_of places)
  emptied_others = others_stay txn places place lock_there.0 (inside_locks places place lock_there.0 lock_there.1) lock_there.1 lock_there.2
