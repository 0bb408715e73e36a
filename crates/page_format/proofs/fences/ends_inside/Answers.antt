use Rattle.std.proofs.Common.{◌≡◌, ◌-◌, ◌<◌, length, take, drop, ap, ◌∙◌, arith}
use Rattle.std.specs.Prelude.{slice_index}
use Rattle.std.specs.Ordering.{is_lt}
use Rattle.page_format.specs.Words.{count_of, record_len_of, records_of}
use Rattle.page_format.specs.Found.{key_cmp}
use Rattle.page_format.proofs.Between.{ends_told}
use Rattle.page_format.proofs.Pieces.{length-pieces}
use Rattle.page_format.proofs.fences.ends_inside.Goals as goal

pub returns : goal.returns
returns c =
    let bytes = c.args.bytes.now in
    let high = c.fence_at-high.result.now in
    let all = length-pieces (record_len_of bytes) (count_of bytes) (drop 208 bytes) in
    let some : 0 < length (records_of bytes) = omega (arith, all, c.read_u16-count.ensures, c.if-count-eq0.false) in
    let last : c.read_u16-count.result - 1 ≡ length (records_of bytes) - 1 = omega (arith, all, c.read_u16-count.ensures) in
    let order = c.against.ensures ∙ ap (key_cmp high) c.record_at.ensures in
    ends_told (slice_index bytes 35) _ (take 80 (drop 116 bytes)) high (records_of bytes) _ c.if-bytes.false c.fence_at-high.ensures some last (c.is_lt.ensures ∙ ap is_lt order)
