-- The locks that a search came past, for who walks the places that it finds.
use Rattle.std.proofs.Common.{◌≡◌, ℕ, suc, ◌+◌, ◌-◌, ◌<◌, Bool, true, false, cond, List, [], ◌∷◌, ◌++◌, length, take, drop, set, get_or, refl, sym, ap, ◌∙◌, arith, append_assoc, length-drop}
use Rattle.std.specs.Prelude.{Option, None, Some, filter}
use Rattle.std.specs.List.{AllByRecursion}
use Rattle.std.proofs.lemmas.List.{get_or-drop, get_or-take, length-take, take-append-drop, drop-drop, drop_more, append_cancel_right, take_more_set, drop-set-lt}
use Rattle.inno_types.specs.declared.lock.Lock.{Lock}
use Rattle.lock_lists.specs.Places.{locks_of, holds_at, IsFirst, HasNoneFrom}
use Rattle.lock_lists.proofs.Locks.{locks_append, held_lock}

module _ (test : Lock → Bool) where
  abbrev pub AllFail : List Lock → Type 0
  AllFail locks = AllByRecursion (λ lock. test lock ≡ false) locks

  all_fail : (places : List (Option Lock)) → ((i : ℕ) → i < length places → holds_at test (get_or places i None) ≡ false) → AllFail (locks_of places)
  all_fail [] fails = tt
  all_fail (None ∷ places) fails = all_fail places (λ i lt. fails (suc i) (omega (arith, lt)))
  all_fail (Some lock ∷ places) fails = (fails 0 (omega arith), all_fail places (λ i lt. fails (suc i) (omega (arith, lt))))

  -- behind the last one that passes
  pub rest_fails : (places : List (Option Lock)) (from : ℕ) → HasNoneFrom test places from → AllFail (locks_of (drop from places))
  rest_fails places from none = all_fail (drop from places) (λ i lt.
      ap (holds_at test) (get_or-drop from places i None) ∙ none.none (from + i) (omega arith) (omega (arith, lt, length-drop from places)))

  pub filter_fails : (locks : List Lock) → AllFail locks → filter test locks ≡ []
  filter_fails [] fail = refl
  filter_fails (lock ∷ locks) fail = ap (λ b. cond b (lock ∷ filter test locks) (filter test locks)) fail.0 ∙ filter_fails locks fail.1

  pub filter_past : (front locks : List Lock) → AllFail front → filter test (front ++ locks) ≡ filter test locks
  filter_past [] locks fail = refl
  filter_past (lock ∷ front) locks fail =
      ap (λ b. cond b (lock ∷ filter test (front ++ locks)) (filter test (front ++ locks))) fail.0 ∙ filter_past front locks fail.1

  module _ (places : List (Option Lock)) (from place : ℕ) (first : IsFirst test places from place) where
    abbrev behind : List (Option Lock)
    behind = drop from places

    -- those between, of which none passes
    abbrev pub between : List Lock
    between = locks_of (take (place - from) behind)

    pub between_fail : AllFail between
    between_fail =
        all_fail (take (place - from) behind) (λ i lt.
        let short = length-take (place - from) behind in
        let later = first.later in
        let below : i < place - from = omega (arith, lt, short) in
        ap (holds_at test) (get_or-take (place - from) behind i None below ∙ get_or-drop from places i None)
        ∙ first.between (from + i) (omega arith) (omega (arith, below, later)))

    pub found : (lock : Lock) × (get_or places place None ≡ Some lock) × (test lock ≡ true)
    found = held_lock test (get_or places place None) first.there

    back : drop (place - from) behind ≡ drop place places
    back = let later = first.later in drop-drop (place - from) from places ∙ ap (λ n. drop n places) (omega (arith, later))

    here : drop place places ≡ Some found.0 ∷ drop (place + 1) places
    here = drop_more places place None first.within ∙ ap (λ x. x ∷ drop (place + 1) places) found.1

    -- all that are left
    pub cut_at : locks_of behind ≡ between ++ found.0 ∷ locks_of (drop (place + 1) places)
    cut_at =
        ap locks_of (sym (take-append-drop (place - from) behind)) ∙ locks_append (take (place - from) behind) (drop (place - from) behind)
        ∙ ap (λ ls. between ++ ls) (ap locks_of (back ∙ here))

    -- and those before
    pub taken_to : locks_of (take place places) ≡ locks_of (take from places) ++ between
    taken_to =
        ap locks_of (append_cancel_right (take place places) (take from places ++ take (place - from) behind) (drop place places)
        (take-append-drop place places ∙ sym (take-append-drop from places)
        ∙ ap (λ ps. take from places ++ ps) (sym (take-append-drop (place - from) behind) ∙ ap (λ ps. take (place - from) behind ++ ps) back)
        ∙ sym (append_assoc (take from places) (take (place - from) behind) (drop place places))))
        ∙ locks_append (take from places) (take (place - from) behind)

    -- where the place is set, those before and it
    pub taken_set : (x : Option Lock) → locks_of (take (place + 1) (set places place x)) ≡ (locks_of (take from places) ++ between) ++ locks_of (x ∷ [])
    taken_set x = ap locks_of (take_more_set places place x first.within) ∙ locks_append (take place places) (x ∷ []) ∙ ap (λ ls. ls ++ locks_of (x ∷ [])) taken_to

    pub left_set : (x : Option Lock) → locks_of (drop (place + 1) (set places place x)) ≡ locks_of (drop (place + 1) places)
    left_set x = ap locks_of (drop-set-lt (place + 1) places place x (omega arith))

    pub filter_cut : filter test (locks_of behind) ≡ found.0 ∷ filter test (locks_of (drop (place + 1) places))
    filter_cut =
        let rest = locks_of (drop (place + 1) places) in
        ap (filter test) cut_at ∙ filter_past between (found.0 ∷ rest) between_fail ∙ ap (λ b. cond b (found.0 ∷ filter test rest) (filter test rest)) found.2
