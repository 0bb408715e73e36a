use Rattle.std.proofs.Common.{reverse, ap, ◌∙◌}
use Rattle.std.specs.List.{list_any}
use Rattle.std.proofs.lemmas.List.Sorted.{list_any-IsPermutation, IsPermutation-reverse}
use Rattle.run_outcome.specs.Faults.{answers_no_memory}
use Rattle.run_outcome.proofs.outcome.has_lacked_memory.Goals as goal

pub returns : goal.returns
returns c =
    let events = c.events-events.result.now in
    c.any_lacks_memory.ensures
    ∙ (list_any-IsPermutation answers_no_memory events (reverse events) (IsPermutation-reverse events) ∙ ap (list_any answers_no_memory)
    c.events-events.ensures)
