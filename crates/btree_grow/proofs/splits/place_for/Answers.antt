use Rattle.std.proofs.Common.{◌≡◌, [], length, drop, slice_index_or, ap, arith}
use Rattle.page_format.specs.Words.{count_of, record_len_of, records_of}
use Rattle.page_format.proofs.Pieces.{length-pieces}
use Rattle.law_flat_tree.specs.Pages.{child_of}
use Rattle.btree_grow.proofs.splits.place_for.Goals as goal

pub returns-clause-leads : goal.returns-clause-leads
returns-clause-leads c =
    let bytes = c.args.bytes.now in
    let all : length (records_of bytes) ≡ count_of bytes = length-pieces (record_len_of bytes) (count_of bytes) (drop 208 bytes) in (
      c.if-bytes-eq0.false,
      λ rising. record {
        some = omega (arith, all);
        place = c.first_place.result;
        starts = c.first_place.ensures.place rising;
        child_is = ap (λ p. child_of c.args.tree.key_len (slice_index_or (records_of bytes) p [])) c.saturating_sub.ensures;
      },
    )
