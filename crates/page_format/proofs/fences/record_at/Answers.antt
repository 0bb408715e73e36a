use Rattle.std.proofs.Common.{ℕ, take, drop, ap, ◌∙◌}
use Rattle.page_format.specs.Words.{record_len_of}
use Rattle.page_format.proofs.Places.{record_of}
use Rattle.page_format.proofs.fences.record_at.Goals as goal

pub returns : goal.returns
returns c =
    let bytes = c.args.bytes.now in
    c.split_at.ensures.front ∙ ap (λ (n : ℕ). take n c.behind.result.now) (c.from-width.ensures ∙ c.read_u16.ensures)
    ∙ ap (take (record_len_of bytes)) (c.behind.ensures.value ∙ ap (λ (n : ℕ). drop n bytes) c.place_of.ensures) ∙ record_of bytes c.args.i c.requires.place
