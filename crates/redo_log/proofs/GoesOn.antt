-- A log area that is zeros behind the groups of a scan.
use Rattle.std.proofs.Common.{◌≡◌, inl, inr, ℕ, ◌+◌, ◌-◌, ◌*◌, ◌<◌, ◌≤◌, List, [], ◌++◌, length, take, replicate, sym, ◌∙◌, ap, subst, arith, length-append}
use Rattle.std.proofs.lemmas.Bool.{cases_lt}
use Rattle.std.proofs.lemmas.List.{take_at, length-replicate, length-take-le, drop-replicate, take-replicate}
use Rattle.store_api.specs.Areas.{Contents, piece, PassesSum}
use Rattle.store_api.proofs.Pieces.{piece_front, piece_behind}
use Rattle.log_format.specs.declared.group.Group.{Group}
use Rattle.log_format.specs.Block.{IsGood}
use Rattle.log_format.specs.Scan.{IsScan, EndsAt}
use Rattle.log_format.proofs.Good.{IsGood-same, payloads-same}
use Rattle.sum64.specs.Fnv.{fnv_of}
use Rattle.redo_log.specs.Logged.{GoesOnAt}

-- a block of zeros fails its sum
pub zeros_fail : PassesSum (replicate 512 0) → ⊥
unfolding fnv_of
zeros_fail passes = absurd (cc)

piece-zeros : (m j : ℕ) → 512 * (j + 1) ≤ m → piece 512 j (replicate m 0) ≡ replicate 512 0
piece-zeros m j inside =
    ap (λ (l : List ℕ). take 512 l) (drop-replicate (512 * j) m 0) ∙ take-replicate 512 (m - 512 * j) 0 (omega (arith, inside))

module _ (run first n : ℕ) (groups : List Group) (area : List ℕ) (c : Contents) (scan : IsScan run first area groups) (ends : EndsAt run n area groups)
    (rests : c.writes ≡ []) (zeroed : c.synced ≡ take (512 * n) area ++ replicate (length area - 512 * n) 0) where
  reach : 512 * n ≤ length area
  reach = elim (cases_lt 0 n) [
    | inl some ↦ let inside = (ends.good (n - 1) (omega arith)).inside in omega (arith, inside)
    | inr none ↦ omega arith
  ]

  front : List ℕ
  front = take (512 * n) area

  zeros : List ℕ
  zeros = replicate (length area - 512 * n) 0

  length-front : length front ≡ 512 * n
  unfolding front
  length-front = length-take-le (512 * n) area reach

  length-synced : length c.synced ≡ length area
  unfolding front zeros
  length-synced =
      omega (
        arith,
        ap length zeroed,
        length-append (take (512 * n) area) (replicate (length area - 512 * n) 0),
        length-front,
        length-replicate {A = ℕ}
            (length area - 512 * n) 0,
        reach,
      )

  same_front : take (512 * n) c.synced ≡ take (512 * n) area
  unfolding front
  same_front = ap (λ (l : List ℕ). take (512 * n) l) zeroed ∙ take_at (take (512 * n) area) (replicate (length area - 512 * n) 0) (512 * n) length-front

  good_before : (k : ℕ) → k < n → IsGood run k c.synced
  good_before k below =
      IsGood-same run k area c.synced (omega (arith, length-synced, (ends.good k below).inside)) (piece_front 512 n k area c.synced below (sym same_front))
      (ends.good k below)

  bad_behind : (k : ℕ) → n ≤ k → IsGood run k c.synced → ⊥
  unfolding front
  bad_behind k from good =
      let j = k - n in
      let number : n + j ≡ k = omega (arith, from) in
      let within : 512 * (j + 1) ≤ length area - 512 * n = omega (arith, good.inside, length-synced, from) in
      let there : piece 512 k c.synced ≡ replicate 512 0 =
      ap (λ (m : ℕ). piece 512 m c.synced) (sym number)
      ∙ ap (λ (l : List ℕ). piece 512 (n + j) l) zeroed
      ∙ piece_behind 512 n j (take (512 * n) area) (replicate (length area - 512 * n) 0) length-front
      ∙ piece-zeros (length area - 512 * n) j within in
      zeros_fail (subst PassesSum there good.sum)

  pub goes_on : GoesOnAt run first n groups c
  goes_on = record {
    rests = rests;
    each = scan.held.each;
    good = good_before;
    bad = bad_behind;
    stored = payloads-same n c.synced area (λ k below. piece_front 512 n k c.synced area below same_front) ∙ ends.stored;
  }
