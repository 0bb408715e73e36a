use Rattle.std.proofs.Common.{reverse, ap, ◌∙◌}
use Rattle.std.specs.List.{list_any}
use Rattle.std.proofs.lemmas.List.Sorted.{list_any-IsPermutation, IsPermutation-reverse}
use Rattle.run_outcome.specs.Faults.{stops}
use Rattle.run_outcome.proofs.Telling.{stops_once}
use Rattle.run_outcome.proofs.outcome.has_stopped.Goals as goal

pub returns : goal.returns
returns c =
    let events = c.events-events.result.now in
    c.any_stops.ensures
    ∙ (list_any-IsPermutation stops events (reverse events) (IsPermutation-reverse events) ∙ ap (list_any stops) c.events-events.ensures)
    ∙ stops_once c.args.history.now.past
