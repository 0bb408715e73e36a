-- One step of the walk that copies an inserter's locks of a gap.
use Rattle.std.proofs.Common.{◌≡◌, ℕ, ◌+◌, ◌<◌, ◌≤◌, Bool, true, false, cond, List, [], ◌∷◌, ◌++◌, length, get_or, drop, sym, ap, ◌∙◌, arith, refl, append_assoc, append-nil, length-append}
use Rattle.std.proofs.lemmas.List.{get_or_append_left, drop_more}
use Rattle.std.proofs.lemmas.List.Sums.{sum_by-cons}
use Rattle.inno_types.specs.declared.lock.Spot.{Spot}
use Rattle.inno_types.specs.declared.lock.Lock.{Lock}
use Rattle.lock_rules.specs.Rules.{number_of}
use Rattle.lock_rules.specs.declared.rule.Rule.TheVariants.{CopiedOnInsert}
use Rattle.lock_table.specs.Queue.{is_covered}
use Rattle.lock_table.specs.Records.{is_own_gap, own_gaps, uncovered, own_copies, copies, as_gap}
use Rattle.lock_table.proofs.Walk.{IsCopied}

-- there are as many locks of the gap as copies, or more
length-own : (txn : ℕ) (new next : Spot) (locks : List Lock) → length (own_copies txn new next locks) ≡ own_gaps txn next locks
length-own txn new next [] = refl
length-own txn new next (w ∷ locks) =
    go (is_own_gap txn next w) (length-own txn new next locks) ∙ sym (sum_by-cons (λ lock. cond (is_own_gap txn next lock) 1 0) w locks)
  where
    go : (b : Bool) → length (own_copies txn new next locks) ≡ own_gaps txn next locks
        → length (cond b (as_gap (number_of CopiedOnInsert) new w ∷ own_copies txn new next locks) (own_copies txn new next locks))
        ≡ cond b 1 0 + own_gaps txn next locks
    go true same = omega (arith, same)
    go false same = omega (arith, same)

pub length-uncovered : (held ws : List Lock) → length (uncovered held ws) ≤ length ws
length-uncovered held [] = omega arith
length-uncovered held (w ∷ ws) =
    go (is_covered held w) (length-uncovered held ws) (length-uncovered (held ++ w ∷ []) ws) where
      go : (b : Bool) → length (uncovered held ws) ≤ length ws → length (uncovered (held ++ w ∷ []) ws) ≤ length ws
          → length (cond b (uncovered held ws) (w ∷ uncovered (held ++ w ∷ []) ws)) ≤ length (w ∷ ws)
      go true le le' = omega (arith, le)
      go false le le' = omega (arith, le')

-- the first of them is added, and then the others
pub split_off : (now : List Lock) (one : Lock) (behind : List Lock)
    → uncovered now (one ∷ []) ++ uncovered (now ++ uncovered now (one ∷ [])) behind ≡ uncovered now (one ∷ behind)
split_off now one behind =
    elim (is_covered now one) as (λ b. cond b [] (one ∷ []) ++ uncovered (now ++ cond b [] (one ∷ [])) behind
    ≡ cond b (uncovered now behind) (one ∷ uncovered (now ++ one ∷ []) behind)) [
      | true ↦ ap (λ ls. uncovered ls behind) (append-nil now)
      | false ↦ refl
    ]

pub length-copies : (txn : ℕ) (new next : Spot) (locks : List Lock) → length (copies txn new next locks) ≤ own_gaps txn next locks
length-copies txn new next locks = omega (arith, length-uncovered locks (own_copies txn new next locks), length-own txn new next locks)

module _ (txn : ℕ) (new next : Spot) (old now : List Lock) (i before capacity : ℕ) (so_far : IsCopied txn new next old now i before capacity)
    (within : i < length old) (w : Lock) (at : w ≡ get_or now i w) where
  abbrev copy : Lock
  copy = as_gap (number_of CopiedOnInsert) new w

  rest : drop i old ≡ w ∷ drop (i + 1) old
  rest = drop_more old i w within ∙ ap (λ v. v ∷ drop (i + 1) old)
      (sym (get_or_append_left old so_far.done w i within) ∙ (sym (ap (λ ls. get_or ls i w) so_far.items) ∙ sym at))

  count : own_gaps txn next (drop i old) ≡ cond (is_own_gap txn next w) 1 0 + own_gaps txn next (drop (i + 1) old)
  count = ap (own_gaps txn next) rest ∙ sum_by-cons (λ lock. cond (is_own_gap txn next lock) 1 0) w (drop (i + 1) old)

  abbrev behind : List Lock
  behind = own_copies txn new next (drop (i + 1) old)

  step : own_copies txn new next (drop i old) ≡ cond (is_own_gap txn next w) (copy ∷ behind) behind
  step = ap (own_copies txn new next) rest

  -- what is added for the lock
  abbrev added : List Lock
  added = uncovered now (copy ∷ [])

  few : length added ≤ 1
  few = length-uncovered now (copy ∷ [])

  pub copied_one : is_own_gap txn next w ≡ true → IsCopied txn new next old (now ++ added) (i + 1) before capacity
  copied_one own = record {
    done = so_far.done ++ added;
    items = ap (λ ls. ls ++ added) so_far.items ∙ append_assoc old so_far.done added;
    same = append_assoc so_far.done added (uncovered (now ++ added) behind)
        ∙ ap (λ ls. so_far.done ++ ls) (split_off now copy behind ∙ sym (ap (uncovered now) (step ∙ ap (λ b. cond b (copy ∷ behind) behind) own))) ∙ so_far.same;
    room = omega (arith, so_far.room, count ∙ ap (λ b. cond b 1 0 + own_gaps txn next (drop (i + 1) old)) own, length-append now added, few);
    stays = so_far.stays;
  }

  pub skipped_one : is_own_gap txn next w ≡ false → IsCopied txn new next old now (i + 1) before capacity
  skipped_one other = record {
    done = so_far.done;
    items = so_far.items;
    same = sym (ap (λ ls. so_far.done ++ uncovered now ls) (step ∙ ap (λ b. cond b (copy ∷ behind) behind) other)) ∙ so_far.same;
    room = omega (arith, so_far.room, count ∙ ap (λ b. cond b 1 0 + own_gaps txn next (drop (i + 1) old)) other);
    stays = so_far.stays;
  }
