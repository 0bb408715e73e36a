-- A log area that is zeros behind groups of rows goes on there.
use Rattle.std.proofs.Common.{◌≡◌, inl, inr, ℕ, ◌+◌, ◌-◌, ◌*◌, ◌<◌, ◌≤◌, List, [], ◌++◌, length, take, replicate, refl, sym, ◌∙◌, ap, subst, arith, length-append}
use Rattle.std.specs.Prelude.{All}
use Rattle.std.proofs.lemmas.Bool.{cases_lt}
use Rattle.std.proofs.lemmas.List.{append-nil, take_at, length-replicate, length-take-le, drop-replicate, take-replicate}
use Rattle.store_api.specs.Areas.{Contents, piece, PassesSum}
use Rattle.store_api.proofs.Pieces.{piece_front, piece_behind}
use Rattle.log_format.specs.declared.group.Group.{Group}
use Rattle.log_format.specs.Group.{group_bytes, IsGroup}
use Rattle.log_format.specs.Block.{IsGood, payloads}
use Rattle.log_format.specs.Scan.{stream_of, EndsAt}
use Rattle.log_format.proofs.Good.{IsGood-same, payloads-same}
use Rattle.log_format.proofs.Groups.{length-group}
use Rattle.redo_log.specs.Logged.{GoesOnAt}
use Rattle.redo_log.proofs.GoesOn.{zeros_fail}
use Rattle.law_crashes.specs.RowScan.{HasRowsOnly, NoRowGroup, IsRowScan}

no_group : (lsn : ℕ) → NoRowGroup lsn []
no_group lsn = λ (g : Group) (more : List ℕ) is_group rows number begins.
    absurd (omega (arith, ap length begins, length-append (group_bytes g) more, length-group g))

-- A log that goes on behind groups of rows holds them.
pub rests_scan : (run first block : ℕ) (base : List Group) (c : Contents) → GoesOnAt run first block base c → All HasRowsOnly base
    → IsRowScan run first c.synced base
rests_scan run first block base c goes_on rows = record {
  stream = payloads block c.synced;
  payload = record { blocks = block; good = goes_on.good; bad = goes_on.bad block (omega arith); payload = refl };
  rest = [];
  whole = goes_on.stored ∙ sym (append-nil (stream_of base));
  each = goes_on.each;
  of_rows = rows;
  ends = no_group (first + length base);
}

module _ (run first n : ℕ) (groups : List Group) (rest : ℕ) (area : List ℕ) (c : Contents) (scan : IsRowScan run first area groups)
    (ends : EndsAt run n area groups) (long : length area ≡ 512 * n + rest)
    (rests : c.writes ≡ []) (zeroed : c.synced ≡ take (512 * n) area ++ replicate rest 0) where
  length-front : length (take (512 * n) area) ≡ 512 * n
  length-front = length-take-le (512 * n) area (omega (arith, long))

  length-synced : length c.synced ≡ length area
  length-synced = omega (arith, ap length zeroed, length-append (take (512 * n) area) (replicate rest 0), length-front, length-replicate {A = ℕ} rest 0, long)

  same_piece : (k : ℕ) → k < n → piece 512 k c.synced ≡ piece 512 k area
  same_piece k below =
      piece_front 512 n k c.synced area below (ap (λ (l : List ℕ). take (512 * n) l) zeroed ∙ take_at (take (512 * n) area) (replicate rest 0) (512 * n)
      length-front)

  bad_behind : (k : ℕ) → n ≤ k → IsGood run k c.synced → ⊥
  bad_behind k from good =
      let j = k - n in
      let number : n + j ≡ k = omega (arith, from) in
      let within : 512 * j + 512 ≤ rest = omega (arith, good.inside, length-synced, from, long) in
      let there : piece 512 k c.synced ≡ replicate 512 0 =
      ap (λ (m : ℕ). piece 512 m c.synced) (sym number)
      ∙ ap (λ (l : List ℕ). piece 512 (n + j) l) zeroed
      ∙ piece_behind 512 n j (take (512 * n) area) (replicate rest 0) length-front
      ∙ ap (λ (l : List ℕ). take 512 l) (drop-replicate (512 * j) rest 0)
      ∙ take-replicate 512 (rest - 512 * j) 0 (omega (arith, within)) in
      zeros_fail (subst PassesSum there good.sum)

  pub goes_on_rows : GoesOnAt run first n groups c
  goes_on_rows = record {
    rests = rests;
    each = scan.each;
    good = λ k below. IsGood-same run k area c.synced (omega (arith, length-synced, (ends.good k below).inside)) (sym (same_piece k below)) (ends.good k below);
    bad = bad_behind;
    stored = payloads-same n c.synced area same_piece ∙ ends.stored;
  }
