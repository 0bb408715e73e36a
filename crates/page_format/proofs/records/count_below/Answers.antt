use Rattle.std.proofs.Common.{◌≡◌, ◌+◌, ◌-◌, ◌/◌, ◌<◌, length, take, drop, sym, subst, add-one, arith}
use Rattle.page_format.specs.Found.{AreBelow}
use Rattle.page_format.specs.Words.{count_of, record_len_of, records_of}
use Rattle.page_format.proofs.Pieces.{length-pieces}
use Rattle.page_format.proofs.Searching.{below_up_to}
use Rattle.page_format.proofs.records.count_below.Goals as goal

pub loop-low-preserved-in-Less : goal.loop-low-preserved-in-Less
loop-low-preserved-in-Less c =
    let bytes = c.args.bytes.now in
    let key = c.args.key.now in
    let middle = c.loop-low.low + (c.loop-low.high - c.loop-low.low) / 2 in
    let within : middle < length (records_of bytes) = omega (arith, length-pieces (record_len_of bytes) (count_of bytes) (drop 208 bytes)) in
    record {
      order = omega arith;
      inside = c.loop-low.invariant.inside;
      below = subst (λ k. AreBelow key (take k (records_of bytes))) (sym (add-one middle))
          (below_up_to key (records_of bytes) middle c.requires.rising within (sym (c.in-Less.ensures)));
      next = c.loop-low.invariant.next;
    }

pub returns-clause-next : goal.returns-clause-next
returns-clause-next c =
    let end : c.loop-low.high ≡ c.loop-low.low = omega arith in
    rw end at c.loop-low.invariant.next
