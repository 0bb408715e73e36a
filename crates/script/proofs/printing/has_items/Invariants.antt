use Rattle.std.proofs.Common.{◌≡◌, [], take}
use Rattle.std.specs.Prelude.{reverse}
use Rattle.inno_model.specs.Text.{items}
use Rattle.script.proofs.printing.has_items.Given as goal

-- the session has no item so far
abbrev pub invariant-loop-event : goal.invariant-loop-event
invariant-loop-event l = items l.s (reverse (take l.event-index l.events)) ≡ []
