use Rattle.std.proofs.Common.{◌<◌, length, take, drop, ap, ◌∙◌, arith}
use Rattle.std.specs.Prelude.{not, slice_index}
use Rattle.std.specs.Ordering.{is_lt}
use Rattle.page_format.specs.Words.{count_of, record_len_of, records_of}
use Rattle.page_format.specs.Found.{key_cmp}
use Rattle.page_format.proofs.Between.{begins_told}
use Rattle.page_format.proofs.Pieces.{length-pieces}
use Rattle.page_format.proofs.fences.begins_inside.Goals as goal

pub returns : goal.returns
returns c =
    let bytes = c.args.bytes.now in
    let low = c.fence_at-low.result.now in
    let all = length-pieces (record_len_of bytes) (count_of bytes) (drop 208 bytes) in
    let some : 0 < length (records_of bytes) = omega (arith, all, c.read_u16.ensures, c.if-read_u16-eq0.false) in
    let order = c.against.ensures ∙ ap (key_cmp low) c.record_at.ensures in
    begins_told (slice_index bytes 34) (take 80 (drop 36 bytes)) low (records_of bytes) _ c.if-bytes.false c.fence_at-low.ensures some (ap not (c.is_lt.ensures ∙ ap is_lt order))
