use Rattle.std.proofs.Common.{ℕ, List, length, ap, ◌∙◌, Some}
use Rattle.std.specs.Prelude.{option_map}
use Rattle.entries.proofs.Kept.{got}
use Rattle.entries.proofs.pairs.SortedPairs.length_of.Goals as goal

pub returns-in-Some-clause-length : goal.returns-in-Some-clause-length
returns-in-Some-clause-length c =
    rw (← c.self.view_is)
    (ap (λ n. Some n) c.len.ensures
    ∙ ap (option_map (λ (value : List ℕ). length value)) (c.in-Some.ensures.value ∙ got c.args.key.now c.self.inside.stored.entries))

pub returns-in-None-clause-length : goal.returns-in-None-clause-length
returns-in-None-clause-length c =
    rw (← c.self.view_is)
    (ap (option_map (λ (value : List ℕ). length value)) (c.in-None.ensures.value ∙ got c.args.key.now c.self.inside.stored.entries))
