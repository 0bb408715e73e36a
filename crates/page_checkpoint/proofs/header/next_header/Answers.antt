use Rattle.std.proofs.Common.{◌≡◌, ℕ, List, [], ◌∷◌, length, drop, refl, ◌∙◌, ap, arith, length-drop}
use Rattle.std.proofs.lemmas.List.{take_all}
use Rattle.sum64.specs.Fnv.{fnv_of}
use Rattle.page_checkpoint.proofs.Headers.{next, good}
use Rattle.page_checkpoint.proofs.header.next_header.Goals as goal

pub returns-clause-good : goal.returns-clause-good
returns-clause-good c =
    let e : List ℕ = c.with_piece-begun.result in
    let long : length e ≡ 4096 = omega arith in
    let sum : c.fnv.result ≡ fnv_of (drop 8 e) = c.fnv.ensures ∙ ap fnv_of (take_all 4088 (drop 8 e) (omega (arith, length-drop 8 e, long))) in
    good c.args.lsn c.args.run c.args.first c.fnv.result (0 ∷ 0 ∷ 0 ∷ 0 ∷ []) c.args.page.now c.with_piece-numbered.result c.with_piece-stamped.result
    c.with_piece-of_run.result e c.with_piece.result c.ranges.lsn.fits c.ranges.run.fits c.ranges.first.fits (omega arith) refl refl
    c.with_piece-numbered.ensures (rw c.u64_bytes.ensures at c.with_piece-stamped.ensures) (rw c.u64_bytes-2.ensures at c.with_piece-of_run.ensures)
    (rw c.u64_bytes-3.ensures at c.with_piece-begun.ensures) sum (rw c.u64_bytes-4.ensures at c.with_piece.ensures) (omega arith)

pub returns-clause-header : goal.returns-clause-header
returns-clause-header c =
    let e : List ℕ = c.with_piece-begun.result in
    let long : length e ≡ 4096 = omega arith in
    let sum : c.fnv.result ≡ fnv_of (drop 8 e) = c.fnv.ensures ∙ ap fnv_of (take_all 4088 (drop 8 e) (omega (arith, length-drop 8 e, long))) in
    next c.args.lsn c.args.run c.args.first c.fnv.result (0 ∷ 0 ∷ 0 ∷ 0 ∷ []) c.args.page.now c.with_piece-numbered.result c.with_piece-stamped.result
    c.with_piece-of_run.result e c.with_piece.result c.ranges.lsn.fits c.ranges.run.fits c.ranges.first.fits (omega arith) refl refl
    c.with_piece-numbered.ensures (rw c.u64_bytes.ensures at c.with_piece-stamped.ensures) (rw c.u64_bytes-2.ensures at c.with_piece-of_run.ensures)
    (rw c.u64_bytes-3.ensures at c.with_piece-begun.ensures) sum (rw c.u64_bytes-4.ensures at c.with_piece.ensures)
