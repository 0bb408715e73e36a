use Rattle.std.proofs.Common.{◌≡◌, ◌*◌, ◌+◌, ◌∙◌, drop, arith}
use Rattle.page_format.specs.Words.{count_of, record_len_of}
use Rattle.page_format.specs.Shape.{HasTreeFields, AreZeros}
use Rattle.page_format.proofs.Decided.{by_last}
use Rattle.page_format.proofs.shape.has_tree_fields.Goals as goal

pub returns-then-not-is_fence : goal.returns-then-not-is_fence
returns-then-not-is_fence c = λ fields. c.if-not-is_fence.ensures fields.low

pub returns-then-not-is_fence-2 : goal.returns-then-not-is_fence-2
returns-then-not-is_fence-2 c = λ fields. c.if-not-is_fence-2.ensures fields.high

pub returns : goal.returns
returns c =
    let width : c.from-width.result ≡ record_len_of c.args.bytes.now = c.from-width.ensures ∙ c.read_u16.ensures in
    let count : c.from.result ≡ count_of c.args.bytes.now = c.from.ensures ∙ c.read_u16-2.ensures in
    let rest : c.behind.result.now ≡ drop (208 + count_of c.args.bytes.now * record_len_of c.args.bytes.now) c.args.bytes.now = rw (count, width) at c.behind.ensures.value in
    let end = c.if-end-gt-PAGE.false in
    by_last c.are_zeros-2.result (HasTreeFields c.args.bytes.now) (AreZeros c.behind.result.now) c.are_zeros-2.ensures
    (λ zeros. record {
      level = c.if-bytes-tree_kind.false ∙ c.tree_kind.ensures;
      depth = omega (arith, c.if-bytes-ge-MOST_LEVELS.false);
      width = omega (arith, width);
      inside = rw (count, width) at end;
      low = c.if-not-is_fence.ensures;
      high = c.if-not-is_fence-2.ensures;
      gap = c.if-not-are_zeros.ensures;
      rest = rw rest at zeros;
    })
    (λ fields. rw rest fields.rest)
