use Rattle.std.proofs.Common.{◌≡◌, ◌-◌}
use Rattle.sql_conditions.specs.Parts.{items_at, name_at}
use Rattle.sql_conditions.proofs.Items.{with_items}
use Rattle.sql_conditions.proofs.lists.names.Given as goal

abbrev pub invariant-loop : goal.invariant-loop
invariant-loop l = with_items l.names.items (items_at name_at (l.count - l.counter) l.rest) ≡ items_at name_at l.count l.tokens
