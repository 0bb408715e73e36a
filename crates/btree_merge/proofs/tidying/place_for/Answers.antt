use Rattle.std.proofs.Common.{[], slice_index_or, ap, arith}
use Rattle.page_format.specs.Words.{records_of}
use Rattle.law_flat_tree.specs.Pages.{child_of}
use Rattle.btree_merge.proofs.Merging.{counted_records}
use Rattle.btree_merge.proofs.tidying.place_for.Goals as goal

pub returns-clause-leads : goal.returns-clause-leads
returns-clause-leads c =
    let bytes = c.args.bytes.now in (
      c.if-bytes-eq0.false,
      λ rising. record {
        some = omega (arith, counted_records bytes);
        place = c.first_place.result;
        starts = c.first_place.ensures.place rising;
        child_is = ap (λ p. child_of c.args.tree.key_len (slice_index_or (records_of bytes) p [])) c.saturating_sub.ensures;
      },
    )
