-- Each call of a lock table but two leaves no cycle that did not stand before; a request that waits closes cycles through its own transaction alone.
use Rattle.std.specs.Prelude.{◌≡◌, ◌≢◌, ℕ, ◌==◌, ◌&&◌, ◌||◌, Bool, true, false, cond, List, [], ◌∷◌, ◌++◌, filter, Contains}
use Rattle.std.proofs.Common.{◌⊎◌, inl, inr, sym, ap, ◌∙◌, subst}
use Rattle.std.proofs.lemmas.Bool.{cases_eq, eqb-true}
use Rattle.inno_types.specs.declared.lock.Spot.{Spot}
use Rattle.inno_types.specs.declared.lock.Edge.{Edge}
use Rattle.inno_types.specs.declared.lock.Lock.{Lock}
use Rattle.lock_rules.specs.Kinds.{locks_gap, is_intent}
use Rattle.lock_rules.specs.Spots.{same_spot}
use Rattle.lock_rules.specs.Rules.{number_of}
use Rattle.lock_rules.specs.declared.rule.Rule.TheVariants.{CopiedOnInsert}
use Rattle.lock_rules.proofs.Booleans.{first, split, true_false}
use Rattle.lock_table.specs.Queue.{serve, is_covered, is_waiting, AreSingle}
use Rattle.lock_table.specs.Records.{uncovered, own_copies, copies, as_gap}
use Rattle.lock_table.specs.View.{Table, IsGranted}
use Rattle.lock_table.proofs.Soundness.{single_filter}
use Rattle.deadlock.specs.Cycles.{waiters, IsCycle}
use Rattle.law_locks.proofs.Members.{IsIn, contains_from_in, in_cases, in_filter, in_map, before_push}
use Rattle.law_locks.proofs.Parts.{IsPart, part_itself, part_of_part, filtered_part, served_part, served_locks}
use Rattle.law_locks.proofs.Edges.{IsWait, elsewhere}

-- ---- no new edge between those who wait

-- the queue is a part of the old one, and no lock that is new is one of a transaction that waits
pub record IsLess (old_granted old_waiting granted waiting : List Lock) : Type 0 where
  pub part : IsPart waiting old_waiting
  pub locks : (lock : Lock) → IsIn granted lock → IsIn old_granted lock ⊎ (is_waiting lock.txn waiting ≡ false)

pub stood_before : (old_granted old_waiting granted waiting : List Lock) → AreSingle old_waiting → IsLess old_granted old_waiting granted waiting
    → (cycle : List Edge) → IsCycle granted waiting cycle → IsCycle old_granted old_waiting cycle
stood_before old_granted old_waiting granted waiting single less cycle is =
    elsewhere granted waiting cycle is old_granted old_waiting single
    (λ e there wait holder. record {
      asked = wait.asked;
      there = less.part.there wait.asked wait.there;
      own = wait.own;
      is = wait.is;
      blocks = wait.blocks;
      from = elim wait.from [
        | inr order ↦ inr (less.part.order e.lock wait.asked order)
        | inl held ↦ elim (less.locks e.lock held) [
          | inl before ↦ inl before
          | inr dead ↦ absurd (true_false _ (subst (λ t. is_waiting t waiting ≡ true) (sym (ap (λ (f : Edge). f.holder) wait.is)) holder) dead)
        ]
      ];
    })

-- ---- grants, and what is given back

pub granted_less : (old : Table) (lock : Lock) (new : Table) → IsGranted old new lock → is_waiting lock.txn old.waiting ≡ false
    → IsLess old.granted old.waiting new.granted new.waiting
granted_less old lock new is dead =
    subst (λ (t : Table). IsLess old.granted old.waiting t.granted t.waiting) (sym is.lists)
    (record { part = part_itself old.waiting; locks = λ other there. one_more (is_covered old.granted lock || is_intent lock.kind) other there })
  where
    one_more : (b : Bool) (other : Lock) → IsIn (cond b old.granted (old.granted ++ lock ∷ [])) other
        → IsIn old.granted other ⊎ (is_waiting other.txn old.waiting ≡ false)
    one_more true other there = inl there
    one_more false other there = elim (in_cases old.granted (lock ∷ []) other there) [
      | inl before ↦ inl before
      | inr this ↦ elim this [ inl same ↦ inr (subst (λ (l : Lock). is_waiting l.txn old.waiting ≡ false) same dead) | inr none ↦ absurd none ]
    ]

-- of the locks and requests some go, and requests are granted in order
pub served_less : (kept left : Lock → Bool) (granted waiting : List Lock) → AreSingle waiting
    → IsLess granted waiting (serve (filter kept granted) [] (filter left waiting)).granted (serve (filter kept granted) [] (filter left waiting)).waiting
served_less kept left granted waiting single = record {
  part = part_of_part _ (filter left waiting) waiting (served_part (filter kept granted) [] (filter left waiting)) (filtered_part left waiting);
  locks = λ lock there. elim (served_locks (filter kept granted) [] (filter left waiting) (single_filter left waiting single) lock there) [
    | inl before ↦ inl (in_filter kept granted lock before).0
    | inr done ↦ inr done
  ];
}

pub withdrawn_less : (left : Lock → Bool) (granted waiting : List Lock) → AreSingle waiting
    → IsLess granted waiting (serve granted [] (filter left waiting)).granted (serve granted [] (filter left waiting)).waiting
withdrawn_less left granted waiting single = record {
  part = part_of_part _ (filter left waiting) waiting (served_part granted [] (filter left waiting)) (filtered_part left waiting);
  locks = λ lock there. served_locks granted [] (filter left waiting) (single_filter left waiting single) lock there;
}

pub released_less : (kept : Lock → Bool) (granted waiting : List Lock) → AreSingle waiting
    → IsLess granted waiting (serve (filter kept granted) [] waiting).granted (serve (filter kept granted) [] waiting).waiting
released_less kept granted waiting single = record {
  part = served_part (filter kept granted) [] waiting;
  locks = λ lock there. elim (served_locks (filter kept granted) [] waiting single lock there) [
    | inl before ↦ inl (in_filter kept granted lock before).0
    | inr done ↦ inr done
  ];
}

-- ---- a record is inserted

own_are_own : (txn : ℕ) (new next : Spot) (locks : List Lock) (lock : Lock) → IsIn (own_copies txn new next locks) lock → lock.txn ≡ txn
own_are_own txn new next [] lock there = absurd there
own_are_own txn new next (w ∷ locks) lock there =
    split (w.txn == txn && same_spot w.spot next && locks_gap w.kind)
    (λ copied.
    elim (let now : (as_gap (number_of CopiedOnInsert) new w ≡ lock) ⊎ IsIn (own_copies txn new next locks) lock
    = subst (λ b. IsIn (cond b (as_gap (number_of CopiedOnInsert) new w ∷ own_copies txn new next locks) (own_copies txn new next locks)) lock) copied there in now) [
      | inl here ↦ sym (ap (λ (l : Lock). l.txn) here) ∙ eqb-true w.txn txn (first (w.txn == txn) _ (first (w.txn == txn && same_spot w.spot next) _ copied))
      | inr rest ↦ own_are_own txn new next locks lock rest
    ])
    (λ not_copied.
    own_are_own txn new next locks lock
    (subst (λ b. IsIn (cond b (as_gap (number_of CopiedOnInsert) new w ∷ own_copies txn new next locks) (own_copies txn new next locks)) lock) not_copied there))

pub uncovered_in : (held ws : List Lock) (lock : Lock) → IsIn (uncovered held ws) lock → IsIn ws lock
uncovered_in held [] lock there = there
uncovered_in held (w ∷ ws) lock there = go (is_covered held w) (uncovered_in held ws lock) (uncovered_in (held ++ w ∷ []) ws lock) there where
  go : (b : Bool) → (IsIn (uncovered held ws) lock → IsIn ws lock) → (IsIn (uncovered (held ++ w ∷ []) ws) lock → IsIn ws lock)
      → IsIn (cond b (uncovered held ws) (w ∷ uncovered (held ++ w ∷ []) ws)) lock → IsIn (w ∷ ws) lock
  go true left more rest = inr (left rest)
  go false left more there = elim there [ inl here ↦ inl here | inr rest ↦ inr (more rest) ]

copies_own : (txn : ℕ) (new next : Spot) (locks : List Lock) (lock : Lock) → IsIn (copies txn new next locks) lock → lock.txn ≡ txn
copies_own txn new next locks lock there = own_are_own txn new next locks lock (uncovered_in locks (own_copies txn new next locks) lock there)

pub inserted_less : (txn : ℕ) (new next : Spot) (granted waiting : List Lock) → is_waiting txn waiting ≡ false
    → IsLess granted waiting (granted ++ copies txn new next granted) waiting
inserted_less txn new next granted waiting dead = record {
  part = part_itself waiting;
  locks = λ lock there. elim (in_cases granted (copies txn new next granted) lock there) [
    | inl before ↦ inl before
    | inr copied ↦ inr (subst (λ t. is_waiting t waiting ≡ false) (sym (copies_own txn new next granted lock copied)) dead)
  ];
}

-- ---- a request waits

-- the transaction is among these, or none of them is it
is_there : (txn : ℕ) (txns : List ℕ) → IsIn txns txn ⊎ ((other : ℕ) → IsIn txns other → other ≢ txn)
is_there txn [] = inr (λ other none. absurd none)
is_there txn (t ∷ txns) = elim (cases_eq t txn) [
  | inl same ↦ inl (inl same)
  | inr apart ↦ elim (is_there txn txns) [
    | inl rest ↦ inl (inr rest)
    | inr others ↦ inr (λ other is. elim is [ inl here ↦ subst (λ t. t ≢ txn) here apart | inr rest ↦ others other rest ])
  ]
]

pub queued_closes : (granted waiting : List Lock) (lock : Lock) → AreSingle waiting → (cycle : List Edge) → IsCycle granted (waiting ++ lock ∷ []) cycle
    → IsCycle granted waiting cycle ⊎ Contains (waiters cycle) lock.txn
queued_closes granted waiting lock single cycle is =
    elim (is_there lock.txn (waiters cycle)) [
      | inl through ↦ inr (contains_from_in (waiters cycle) lock.txn through)
      | inr others ↦
          let apart : (e : Edge) → IsIn cycle e → (wait : IsWait granted (waiting ++ lock ∷ []) e) → lock ≡ wait.asked → ⊥ =
          λ e there wait same. others e.waiter (in_map (λ (f : Edge). f.waiter) cycle e there) (sym wait.own ∙ sym (ap (λ (l : Lock). l.txn) same)) in
          inl
          (elsewhere granted (waiting ++ lock ∷ []) cycle is granted waiting single
          (λ e there wait holder. record {
            asked = wait.asked;
            there = elim (in_cases waiting (lock ∷ []) wait.asked wait.there) [
              | inl before ↦ before
              | inr this ↦ elim this [ inl same ↦ absurd (apart e there wait same) | inr none ↦ absurd none ]
            ];
            own = wait.own;
            is = wait.is;
            blocks = wait.blocks;
            from = elim wait.from [
              | inl held ↦ inl held
              | inr order ↦ elim (before_push waiting lock e.lock wait.asked order) [ inl before ↦ inr before | inr same ↦ absurd (apart e there wait same) ]
            ];
          }))
    ]
