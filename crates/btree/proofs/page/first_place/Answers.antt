use Rattle.std.proofs.Common.{◌≡◌, ◌+◌, ◌-◌, ◌/◌, ◌<◌, false, [], length, take, drop, slice_index_or, sym, ap, ◌∙◌, subst, add-one, arith}
use Rattle.std.specs.List.{AllByRecursion}
use Rattle.page_format.specs.Words.{count_of, record_len_of, records_of}
use Rattle.page_format.proofs.Pieces.{length-pieces}
use Rattle.btree.specs.Places.{passes, record_passes}
use Rattle.btree.proofs.Passing.{fail_up_to}
use Rattle.btree.proofs.page.first_place.Goals as goal

pub loop-low-preserved : goal.loop-low-preserved
loop-low-preserved c =
    let bytes = c.args.bytes.now in
    let n = c.args.tree.key_len in
    let middle = c.loop-low.low + (c.loop-low.high - c.loop-low.low) / 2 in
    let all : length (records_of bytes) ≡ count_of bytes = length-pieces (record_len_of bytes) (count_of bytes) (drop 208 bytes) in
    let within : middle < length (records_of bytes) = omega (arith, all) in
    let fails : record_passes n c.args.bound c.args.key.now (slice_index_or (records_of bytes) middle []) ≡ false =
    sym (c.passes.ensures ∙ ap (passes c.args.bound c.args.key.now) c.key_at.ensures) ∙ c.if-passes.false in
    record {
      order = omega arith;
      inside = c.loop-low.invariant.inside;
      before = λ rising.
          subst (λ k. AllByRecursion (λ r. record_passes n c.args.bound c.args.key.now r ≡ false) (take k (records_of bytes))) (sym (add-one middle))
          (fail_up_to n c.args.bound c.args.key.now (records_of bytes) middle rising within fails);
      here = c.loop-low.invariant.here;
    }

pub returns-clause-place : goal.returns-clause-place
returns-clause-place c =
    let bytes = c.args.bytes.now in
    let all : length (records_of bytes) ≡ count_of bytes = length-pieces (record_len_of bytes) (count_of bytes) (drop 208 bytes) in
    let end : c.loop-low.high ≡ c.loop-low.low = omega arith in
    λ rising. record {
      within = omega (arith, all);
      before = c.loop-low.invariant.before rising;
      here = λ lt. rw end at (c.loop-low.invariant.here rising (omega (arith, lt, all)));
    }
