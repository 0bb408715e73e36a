-- Chains stay linked as places are added, taken out of their bucket and put into one.
use Rattle.std.proofs.Common.{◌≡◌, ◌≢◌, ◌∙◌, ℕ, ◌+◌, ◌<◌, ◌≤◌, List, [], ◌∷◌, ◌++◌, ◌⊎◌, inl, inr, length, set, get_or, refl, sym, ap, subst, arith, length-append}
use Rattle.std.specs.Prelude.{Option, None, Some}
use Rattle.std.proofs.lemmas.Bool.{cases_eq, cases_lt}
use Rattle.std.proofs.lemmas.List.{get_or-set_same, get_or-set_other, get_or_append_left, get_or_push, get_or_past, length-set}
use Rattle.lock_lists.specs.Last.{IsLast, IsNext, AreLinked}

-- a place of a bucket is one of the list
pub inside : (marks : List (Option ℕ)) (i bucket : ℕ) → get_or marks i None ≡ Some bucket → i < length marks
inside marks i bucket is = elim (cases_lt i (length marks)) [
  | inl lt ↦ lt
  | inr past ↦ let none = get_or_past marks i None past in absurd (cc (none, is))
]

-- where the places below the limit are as before
pub kept : (bucket : ℕ) (marks after : List (Option ℕ)) (limit last : ℕ) → ((i : ℕ) → i < limit → get_or after i None ≡ get_or marks i None)
    → IsLast bucket marks limit last → IsLast bucket after limit last
kept bucket marks after limit last same is = let upto = is.within in record {
  within = is.within;
  there = λ i e. same i (omega (arith, e, upto)) ∙ is.there i e;
  behind = λ i from below hit. is.behind i from below (sym (same i below) ∙ hit);
}

-- a place is added
module _ (newest older : List ℕ) (marks : List (Option ℕ)) (linked : AreLinked newest marks older) (bucket : ℕ) (lt : bucket < length newest) where
  abbrev more : List (Option ℕ)
  more = marks ++ Some bucket ∷ []

  left : (i : ℕ) → i < length marks → get_or more i None ≡ get_or marks i None
  left i within = get_or_append_left marks (Some bucket ∷ []) None i within

  end : get_or more (length marks) None ≡ Some bucket
  end = get_or_push marks (Some bucket) None (length marks) refl

  long : length more ≡ length marks + 1
  long = length-append marks (Some bucket ∷ [])

  pub linked_push : AreLinked (set newest bucket (length marks + 1)) more (older ++ get_or newest bucket 0 ∷ [])
  linked_push = record {
    heads = λ other within. elim (cases_eq other bucket) [
      | inl same ↦ subst (λ b. IsLast b more (length more) (get_or (set newest bucket (length marks + 1)) b 0)) (sym same)
          (subst (IsLast bucket more (length more)) (sym (get_or-set_same newest bucket (length marks + 1) 0 lt)) newest_now)
      | inr apart ↦ subst (IsLast other more (length more)) (sym (get_or-set_other newest bucket other (length marks + 1) 0 apart))
          (others other apart (linked.heads other (omega (arith, within, length-set newest bucket (length marks + 1)))))
    ];
    long = length-append older (get_or newest bucket 0 ∷ []) ∙ ap (λ n. n + 1) linked.long ∙ sym long;
    links = λ i b is. elim (cases_lt i (length marks)) [
      | inl within ↦ subst (IsLast b more i) (sym (get_or_append_left older (get_or newest bucket 0 ∷ []) 0 i (omega (arith, within, linked.long))))
          (kept b marks more i (get_or older i 0) (λ j below. left j (omega (arith, below, within))) (linked.links i b (sym (left i within) ∙ is)))
      | inr past ↦
          let at : i ≡ length marks = omega (arith, inside more i b is, past, long) in
          let one : b ≡ bucket = cc (ap (λ n. get_or more n None) at, end, is) in
          subst (IsLast b more i) (sym (get_or_push older (get_or newest bucket 0) 0 i (linked.long ∙ sym at)))
          (subst (λ c. IsLast c more i (get_or newest bucket 0)) (sym one)
          (subst (λ n. IsLast bucket more n (get_or newest bucket 0)) (sym at)
          (kept bucket marks more (length marks) (get_or newest bucket 0) left (linked.heads bucket lt))))
    ];
    buckets = λ i b is. elim (cases_lt i (length marks)) [
      | inl within ↦ omega (arith, linked.buckets i b (sym (left i within) ∙ is), length-set newest bucket (length marks + 1))
      | inr past ↦
          let at : i ≡ length marks = omega (arith, inside more i b is, past, long) in
          let one : b ≡ bucket = cc (ap (λ n. get_or more n None) at, end, is) in
          omega (arith, one, lt, length-set newest bucket (length marks + 1))
    ];
  } where
    newest_now : IsLast bucket more (length more) (length marks + 1)
    newest_now = record {
      within = omega (arith, long);
      there = λ i e. ap (λ n. get_or more n None) (omega (arith, e)) ∙ end;
      behind = λ i from below. absurd (omega (arith, from, below, long));
    }

    others : (other : ℕ) → other ≢ bucket → IsLast other marks (length marks) (get_or newest other 0) → IsLast other more (length more) (get_or newest other 0)
    others other apart is = let upto = is.within in record {
      within = omega (arith, upto, long);
      there = λ i e. left i (omega (arith, e, upto)) ∙ is.there i e;
      behind = λ i from below hit. elim (cases_lt i (length marks)) [
        | inl within ↦ is.behind i from within (sym (left i within) ∙ hit)
        | inr past ↦
            let at : i ≡ length marks = omega (arith, below, past, long) in
            apart (cc (ap (λ n. get_or more n None) at, end, hit))
      ];
    }

-- a place is taken out of its bucket
module _ (newest older : List ℕ) (marks : List (Option ℕ)) (linked : AreLinked newest marks older) (bucket place next : ℕ)
    (at : get_or marks place None ≡ Some bucket) (follows : IsNext bucket marks (place + 1) next) where
  abbrev less : List (Option ℕ)
  less = set marks place None

  abbrev own : ℕ
  own = get_or older place 0

  within : place < length marks
  within = inside marks place bucket at

  off : get_or less place None ≡ None
  off = get_or-set_same marks place None None within

  rest : (i : ℕ) → i ≢ place → get_or less i None ≡ get_or marks i None
  rest i apart = get_or-set_other marks place i None None apart

  still : (b limit last : ℕ) → last ≢ place + 1 → IsLast b marks limit last → IsLast b less limit last
  still b limit last other is = record {
    within = is.within;
    there = λ i e. rest i (λ here. other (e ∙ ap (λ n. n + 1) here)) ∙ is.there i e;
    behind = λ i from below hit. elim (cases_eq i place) [
      | inl here ↦ absurd (cc (ap (λ n. get_or less n None) here, off, hit))
      | inr apart ↦ is.behind i from below (sym (rest i apart) ∙ hit)
    ];
  }

  now : IsLast bucket less next own
  now =
      let link = linked.links place bucket at in
      let upto = link.within in
      let later = follows.later (omega (arith, within)) in
      record {
        within = omega (arith, upto, later);
        there = λ i e. rest i (λ here. absurd (omega (arith, e, here, upto))) ∙ link.there i e;
        behind = λ i from below hit. elim (cases_eq i place) [
          | inl here ↦ absurd (cc (ap (λ n. get_or less n None) here, off, hit))
          | inr apart ↦ elim (cases_lt i place) [
            | inl lt ↦ link.behind i from lt (sym (rest i apart) ∙ hit)
            | inr past ↦ follows.between i (omega (arith, past, apart)) below (sym (rest i apart) ∙ hit)
          ]
        ];
      }

  -- only a place of the bucket leads to this one
  owner : (b limit last : ℕ) → IsLast b marks limit last → last ≡ place + 1 → b ≡ bucket
  owner b limit last is e = cc (is.there place e, at)

  -- and only the next one
  links_on : (i b : ℕ) → get_or less i None ≡ Some b → i ≢ next → IsLast b less i (get_or older i 0)
  links_on i b is other =
      let apart : i ≢ place = λ here. absurd (cc (ap (λ n. get_or less n None) here, off, is)) in
      let mark = sym (rest i apart) ∙ is in
      let link = linked.links i b mark in
      still b i (get_or older i 0) (λ e. not_here i b mark other link e) link where
        not_here : (i b : ℕ) → get_or marks i None ≡ Some b → i ≢ next → IsLast b marks i (get_or older i 0) → get_or older i 0 ≡ place + 1 → ⊥
        not_here i b mark other link e =
            let one = owner b i (get_or older i 0) link e in
            let upto = link.within in
            elim (cases_lt i next) [
              | inl before ↦ follows.between i (omega (arith, e, upto)) before (mark ∙ ap Some one)
              | inr past ↦
                  let later = follows.later (omega (arith, within)) in
                  let lt : next < length marks = omega (arith, past, other, inside marks i b mark) in
                  link.behind next (omega (arith, e, later)) (omega (arith, past, other)) (follows.there lt ∙ ap Some (sym one))
            ]

  buckets_on : (i b : ℕ) → get_or less i None ≡ Some b → b < length newest
  buckets_on i b is =
      let apart : i ≢ place = λ here. absurd (cc (ap (λ n. get_or less n None) here, off, is)) in
      linked.buckets i b (sym (rest i apart) ∙ is)

  long_off : length less ≡ length marks
  long_off = length-set marks place None

  -- the next place leads on
  pub unlinked_next : next < length marks → AreLinked newest less (set older next own)
  unlinked_next lt = record {
    heads = λ b below.
        let is = linked.heads b below in
        subst (λ n. IsLast b less n (get_or newest b 0)) (sym long_off) (still b (length marks) (get_or newest b 0) (λ e.
        let later = follows.later (omega (arith, within)) in
        is.behind next (omega (arith, e, later)) lt (follows.there lt ∙ ap Some (sym (owner b (length marks) (get_or newest b 0) is e)))) is);
    long = length-set older next own ∙ linked.long ∙ sym long_off;
    links = λ i b is. elim (cases_eq i next) [
      | inl here ↦
          let apart : i ≢ place = λ e. let later = follows.later (omega (arith, within)) in absurd (omega (arith, later, here, e)) in
          let one : b ≡ bucket = cc (ap (λ n. get_or marks n None) here, follows.there lt, sym (rest i apart) ∙ is) in
          subst (λ n. IsLast b less n (get_or (set older next own) n 0)) (sym here)
          (subst (IsLast b less next) (sym (get_or-set_same older next own 0 (omega (arith, lt, linked.long))))
          (subst (λ c. IsLast c less next own) (sym one) now))
      | inr apart ↦ subst (IsLast b less i) (sym (get_or-set_other older next i own 0 apart)) (links_on i b is apart)
    ];
    buckets = buckets_on;
  }

  -- there is none: the bucket leads on
  pub unlinked_newest : length marks ≤ next → AreLinked (set newest bucket own) less older
  unlinked_newest last =
      let upto = follows.within in
      let all : next ≡ length marks = omega (arith, upto, last) in
      record {
        heads = λ b below. elim (cases_eq b bucket) [
          | inl same ↦ subst (λ c. IsLast c less (length less) (get_or (set newest bucket own) c 0)) (sym same)
              (subst (IsLast bucket less (length less)) (sym (get_or-set_same newest bucket own 0 (linked.buckets place bucket at)))
              (subst (λ n. IsLast bucket less n own) (all ∙ sym long_off) now))
          | inr apart ↦
              let is = linked.heads b (omega (arith, below, length-set newest bucket own)) in
              subst (IsLast b less (length less)) (sym (get_or-set_other newest bucket b own 0 apart))
              (subst (λ n. IsLast b less n (get_or newest b 0)) (sym long_off)
              (still b (length marks) (get_or newest b 0) (λ e. apart (owner b (length marks) (get_or newest b 0) is e)) is))
        ];
        long = linked.long ∙ sym long_off;
        links = λ i b is. links_on i b is (λ here. absurd (omega (arith, here, all, inside less i b is, long_off)));
        buckets = λ i b is. omega (arith, buckets_on i b is, length-set newest bucket own);
      }

-- a place is put into a bucket
module _ (newest older : List ℕ) (marks : List (Option ℕ)) (linked : AreLinked newest marks older) (bucket place next before : ℕ) (lt : bucket < length newest)
    (within : place < length marks) (free : get_or marks place None ≡ None) (follows : IsNext bucket marks place next) (goes : IsLast bucket marks place before) where
  abbrev filled : List (Option ℕ)
  filled = set marks place (Some bucket)

  abbrev linked_here : List ℕ
  linked_here = set older place before

  on : get_or filled place None ≡ Some bucket
  on = get_or-set_same marks place (Some bucket) None within

  same_rest : (i : ℕ) → i ≢ place → get_or filled i None ≡ get_or marks i None
  same_rest i apart = get_or-set_other marks place i (Some bucket) None apart

  long_on : length filled ≡ length marks
  long_on = length-set marks place (Some bucket)

  before_next : place < next
  before_next =
      let later = follows.later (omega (arith, within)) in
      elim (cases_eq next place) [
        | inl here ↦ absurd (cc (follows.there (omega (arith, here, within)), ap (λ n. get_or marks n None) here, free))
        | inr apart ↦ omega (arith, later, apart)
      ]

  to_here : IsLast bucket filled next (place + 1)
  to_here = record {
    within = omega (arith, before_next);
    there = λ i e. ap (λ n. get_or filled n None) (omega (arith, e)) ∙ on;
    behind = λ i from below hit.
        let apart : i ≢ place = λ here. absurd (omega (arith, from, here)) in
        follows.between i (omega (arith, from)) below (sym (same_rest i apart) ∙ hit);
  }

  from_here : IsLast bucket filled place before
  from_here = kept bucket marks filled place before (λ i below. same_rest i (λ here. absurd (omega (arith, below, here)))) goes

  stays : (b limit last : ℕ) → (b ≡ bucket → (limit ≤ place) ⊎ (place < last)) → IsLast b marks limit last → IsLast b filled limit last
  stays b limit last clear is = record {
    within = is.within;
    there = λ i e.
        same_rest i (λ here. absurd (cc (is.there i e, ap (λ n. get_or marks n None) here, free))) ∙ is.there i e;
    behind = λ i from below hit. elim (cases_eq i place) [
      | inl here ↦
          let one : b ≡ bucket = cc (ap (λ n. get_or filled n None) here, on, hit) in
          elim (clear one) [ inl le ↦ absurd (omega (arith, le, below, here)) | inr past ↦ absurd (omega (arith, past, from, here)) ]
      | inr apart ↦ is.behind i from below (sym (same_rest i apart) ∙ hit)
    ];
  }

  links_stay : (i b : ℕ) → get_or filled i None ≡ Some b → i ≢ place → i ≢ next → IsLast b filled i (get_or older i 0)
  links_stay i b is apart other =
      let mark = sym (same_rest i apart) ∙ is in
      let link = linked.links i b mark in
      stays b i (get_or older i 0) (λ one. clear i b mark apart other link one) link where
        clear : (i b : ℕ) → get_or marks i None ≡ Some b → i ≢ place → i ≢ next → IsLast b marks i (get_or older i 0) → b ≡ bucket
            → (i ≤ place) ⊎ (place < get_or older i 0)
        clear i b mark apart other link one = elim (cases_lt i next) [
          | inl before_it ↦ elim (cases_lt i place) [
            | inl low ↦ inl (omega (arith, low))
            | inr high ↦ absurd (follows.between i high before_it (mark ∙ ap Some one))
          ]
          | inr past ↦
              let below : next < length marks = omega (arith, past, other, inside marks i b mark) in
              elim (cases_lt next (get_or older i 0)) [
                | inl goes_there ↦ inr (omega (arith, goes_there, before_next))
                | inr beyond ↦ absurd (link.behind next beyond (omega (arith, past, other)) (follows.there below ∙ ap Some (sym one)))
              ]
        ]

  buckets_stay : (i b : ℕ) → get_or filled i None ≡ Some b → b < length newest
  buckets_stay i b is = elim (cases_eq i place) [
    | inl here ↦ let one : b ≡ bucket = cc (ap (λ n. get_or filled n None) here, on, is) in omega (arith, one, lt)
    | inr apart ↦ linked.buckets i b (sym (same_rest i apart) ∙ is)
  ]

  own_link : (i b : ℕ) → get_or filled i None ≡ Some b → i ≡ place → IsLast b filled i (get_or linked_here i 0)
  own_link i b is here =
      let one : b ≡ bucket = cc (ap (λ n. get_or filled n None) here, on, is) in
      subst (λ n. IsLast b filled n (get_or linked_here n 0)) (sym here)
      (subst (IsLast b filled place) (sym (get_or-set_same older place before 0 (omega (arith, within, linked.long))))
      (subst (λ c. IsLast c filled place before) (sym one) from_here))

  -- the next place leads here
  pub linked_next : next < length marks → AreLinked newest filled (set linked_here next (place + 1))
  linked_next below = record {
    heads = λ b low.
        let is = linked.heads b low in
        subst (λ n. IsLast b filled n (get_or newest b 0)) (sym long_on) (stays b (length marks) (get_or newest b 0) (λ one.
        elim (cases_lt next (get_or newest b 0)) [
          | inl goes_there ↦ inr (omega (arith, goes_there, before_next))
          | inr beyond ↦ absurd (is.behind next beyond below (follows.there below ∙ ap Some (sym one)))
        ]) is);
    long = length-set linked_here next (place + 1) ∙ length-set older place before ∙ linked.long ∙ sym long_on;
    links = λ i b is. elim (cases_eq i next) [
      | inl here ↦
          let apart : i ≢ place = λ e. absurd (omega (arith, e, here, before_next)) in
          let one : b ≡ bucket = cc (ap (λ n. get_or marks n None) here, follows.there below, sym (same_rest i apart) ∙ is) in
          subst (λ n. IsLast b filled n (get_or (set linked_here next (place + 1)) n 0)) (sym here)
          (subst (IsLast b filled next) (sym (get_or-set_same linked_here next (place + 1) 0 (omega (arith, below, linked.long, length-set older place before))))
          (subst (λ c. IsLast c filled next (place + 1)) (sym one) to_here))
      | inr other ↦ subst (IsLast b filled i) (sym (get_or-set_other linked_here next i (place + 1) 0 other)) (elim (cases_eq i place) [
        | inl here ↦ own_link i b is here
        | inr apart ↦ subst (IsLast b filled i) (sym (get_or-set_other older place i before 0 apart)) (links_stay i b is apart other)
      ])
    ];
    buckets = buckets_stay;
  }

  -- there is none: the bucket leads here
  pub linked_newest : length marks ≤ next → AreLinked (set newest bucket (place + 1)) filled linked_here
  linked_newest last =
      let upto = follows.within in
      let all : next ≡ length marks = omega (arith, upto, last) in
      record {
        heads = λ b below. elim (cases_eq b bucket) [
          | inl same ↦ subst (λ c. IsLast c filled (length filled) (get_or (set newest bucket (place + 1)) c 0)) (sym same)
              (subst (IsLast bucket filled (length filled)) (sym (get_or-set_same newest bucket (place + 1) 0 lt))
              (subst (λ n. IsLast bucket filled n (place + 1)) (all ∙ sym long_on) to_here))
          | inr apart ↦
              let is = linked.heads b (omega (arith, below, length-set newest bucket (place + 1))) in
              subst (IsLast b filled (length filled)) (sym (get_or-set_other newest bucket b (place + 1) 0 apart))
              (subst (λ n. IsLast b filled n (get_or newest b 0)) (sym long_on)
              (stays b (length marks) (get_or newest b 0) (λ one. absurd (apart one)) is))
        ];
        long = length-set older place before ∙ linked.long ∙ sym long_on;
        links = λ i b is. elim (cases_eq i place) [
          | inl here ↦ own_link i b is here
          | inr apart ↦ subst (IsLast b filled i) (sym (get_or-set_other older place i before 0 apart))
              (links_stay i b is apart (λ here. absurd (omega (arith, here, all, inside filled i b is, long_on))))
        ];
        buckets = λ i b is. omega (arith, buckets_stay i b is, length-set newest bucket (place + 1));
      }
