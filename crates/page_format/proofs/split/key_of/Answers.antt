use Rattle.std.proofs.Common.{ℕ, ap, drop, take, ◌∙◌}
use Rattle.page_format.proofs.Places.{front_of}
use Rattle.page_format.proofs.split.key_of.Goals as goal

pub returns-clause-value : goal.returns-clause-value
returns-clause-value c =
    c.split_at.ensures.front ∙ ap (λ (n : ℕ). take n c.behind.result.now) c.from.ensures ∙ ap (take c.args.key_len) (c.behind.ensures.value ∙ ap (λ (k : ℕ). drop k c.args.bytes.now) c.place_of-at.ensures) ∙ front_of c.args.bytes.now c.args.i c.args.key_len c.requires.place c.requires.key
