-- How many gap locks are left by requests on a record that goes.
use Rattle.std.proofs.Common.{◌≡◌, ℕ, suc, ◌+◌, ◌<◌, ◌≤◌, Bool, true, false, cond, List, [], ◌∷◌, ◌++◌, length, get_or, drop, sym, ap, ◌∙◌, arith, append_assoc, length-append, drop-cons}
use Rattle.std.specs.Prelude.{Option, ◌&&◌, not}
use Rattle.inno_types.specs.declared.lock.Spot.{Spot}
use Rattle.inno_types.specs.declared.lock.Lock.{Lock}
use Rattle.lock_rules.specs.Spots.{same_spot}
use Rattle.lock_rules.specs.Rules.{number_of}
use Rattle.lock_rules.specs.declared.rule.Rule.TheVariants.{RecordWent}
use Rattle.lock_table.specs.Queue.{is_covered}
use Rattle.lock_table.specs.Records.{left_by, elsewhere, uncovered, becomes_gap, as_gap}
use Rattle.lock_table.proofs.Copying.{length-uncovered, split_off}

module _ (by : Option ℕ) (gone next : Spot) where
  -- a request is left behind as a gap lock at most once, and not if it stays
  pub left_and_stay : (ws : List Lock) → length (left_by by gone next ws) + length (elsewhere gone ws) ≤ length ws
  left_and_stay [] = omega arith
  left_and_stay (w ∷ ws) = go (same_spot w.spot gone) (becomes_gap by w) (left_and_stay ws) where
    go : (b d : Bool) → length (left_by by gone next ws) + length (elsewhere gone ws) ≤ length ws
        → length (cond (b && d) (as_gap (number_of RecordWent) next w ∷ left_by by gone next ws) (left_by by gone next ws)) + length (cond (not b) (w ∷ elsewhere gone ws) (elsewhere gone ws)) ≤ length (w ∷ ws)
    go true true le = omega (arith, le)
    go true false le = omega (arith, le)
    go false d le = omega (arith, le)

  module _ (old now ws : List Lock) (capacity : ℕ) (room : length old + length ws ≤ capacity) where
    -- where the walk has come to its end
    pub room_left : (i : ℕ) → length ws ≤ i → now ++ uncovered now (left_by by gone next (drop i ws)) ≡ old ++ uncovered old (left_by by gone next ws) → length now + length (elsewhere gone ws) ≤ capacity
    room_left i past same =
        omega (
          arith,
          ap length same,
          length-append now (uncovered now (left_by by gone next (drop i ws))),
          length-append old (uncovered old (left_by by gone next ws)),
          length-uncovered old (left_by by gone next ws),
          left_and_stay ws,
        )

    module _ (i : ℕ) (w : Lock) (lt : i < length ws) (is : w ≡ get_or ws i w) (here : same_spot w.spot gone ≡ true) (gap : becomes_gap by w ≡ true)
        (same : now ++ uncovered now (left_by by gone next (drop i ws)) ≡ old ++ uncovered old (left_by by gone next ws)) where
      abbrev one : Lock
      one = as_gap (number_of RecordWent) next w

      abbrev behind : List Lock
      behind = left_by by gone next (drop (suc i) ws)

      first_one : left_by by gone next (drop i ws) ≡ one ∷ behind
      first_one =
          let rest : drop i ws ≡ w ∷ drop (suc i) ws = drop-cons ws i w lt ∙ ap (λ v. v ∷ drop (suc i) ws) (sym is) in
          ap (left_by by gone next) rest ∙ ap (λ b. cond b (one ∷ behind) behind) (ap (λ b. b && becomes_gap by w) here ∙ gap)

      -- where one more gap lock is left
      pub room_next : is_covered now one ≡ false → length now < capacity
      room_next free =
          let first : uncovered now (left_by by gone next (drop i ws)) ≡ one ∷ uncovered (now ++ one ∷ []) behind
          = ap (uncovered now) first_one ∙ ap (λ b. cond b (uncovered now behind) (one ∷ uncovered (now ++ one ∷ []) behind)) free in
          omega (
            arith,
            ap length same,
            ap length first,
            length-append now (uncovered now (left_by by gone next (drop i ws))),
            length-append old (uncovered old (left_by by gone next ws)),
            length-uncovered old (left_by by gone next ws),
            left_and_stay ws,
          )

      -- and behind it
      pub same_next : (now ++ uncovered now (one ∷ [])) ++ uncovered (now ++ uncovered now (one ∷ [])) behind ≡ old ++ uncovered old (left_by by gone next ws)
      same_next = append_assoc now (uncovered now (one ∷ [])) (uncovered (now ++ uncovered now (one ∷ [])) behind)
          ∙ ap (λ ls. now ++ ls) (split_off now one behind ∙ sym (ap (uncovered now) first_one)) ∙ same
