use Rattle.std.proofs.Common.{ℕ, take, drop, sym, ap, ◌∙◌}
use Rattle.std.proofs.lemmas.List.{take-take}
use Rattle.page_format.proofs.fences.fence_at.Goals as goal

pub returns : goal.returns
returns c =
    c.split_at.ensures.front ∙ ap (λ (n : ℕ). take n c.behind.result.now) c.from.ensures ∙ ap (take c.args.len) c.behind.ensures.value
    ∙ sym (take-take c.args.len 80 (drop c.args.at c.args.bytes.now) c.requires.fits)
