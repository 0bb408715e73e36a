use Rattle.std.proofs.Common.{◌≡◌, ◌+◌, ◌*◌, take, drop, ap, ◌∙◌}
use Rattle.page_format.specs.Words.{record_len_of}
use Rattle.page_format.proofs.Places.{record_of}
use Rattle.btree.proofs.page.record_at.Goals as goal

pub returns-clause-value : goal.returns-clause-value
returns-clause-value c =
    let bytes = c.args.bytes.now in
    let width : c.from-width.result ≡ record_len_of bytes = c.from-width.ensures ∙ c.read_u16.ensures in
    let at : 208 + c.from.result * c.from-width.result ≡ 208 + c.args.i * record_len_of bytes =
    ap (λ n. 208 + c.from.result * n) width ∙ ap (λ n. 208 + n * record_len_of bytes) c.from.ensures in
    c.split_at-2.ensures.front ∙ ap (λ n. take n c.split_at.result.1.now) width
    ∙ ap (take (record_len_of bytes)) (c.split_at.ensures.back ∙ ap (λ n. drop n bytes) at) ∙ record_of bytes c.args.i c.requires.place
