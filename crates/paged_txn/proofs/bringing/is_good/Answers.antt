use Rattle.std.proofs.Common.{nat_eq, ◌&&◌, ap, ◌∙◌}
use Rattle.std.specs.Prelude.{drop}
use Rattle.sum64.specs.Fnv.{fnv_of}
use Rattle.stored_pages.specs.Words.{u64_at}
use Rattle.paged_txn.specs.View.{is_good}
use Rattle.paged_txn.proofs.bringing.is_good.Goals as goal

pub returns : goal.returns
unfolding is_good
returns c =
    let page = c.args.page in
    let bytes = c.args.bytes.now in
    ap (λ n. nat_eq n c.sum_of.result && nat_eq c.read_u32.result page) c.read_u64.ensures
    ∙ ap (λ n. nat_eq (u64_at 0 bytes) n && nat_eq c.read_u32.result page) c.sum_of.ensures
    ∙ ap (λ n. nat_eq (u64_at 0 bytes) (fnv_of (drop 8 bytes)) && nat_eq n page) c.read_u32.ensures
