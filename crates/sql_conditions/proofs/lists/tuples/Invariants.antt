use Rattle.std.proofs.Common.{◌≡◌, ◌-◌}
use Rattle.sql_conditions.specs.Parts.{items_at, tuple_at}
use Rattle.sql_conditions.proofs.Items.{with_items}
use Rattle.sql_conditions.proofs.lists.tuples.Given as goal

abbrev pub invariant-loop : goal.invariant-loop
invariant-loop l = with_items l.tuples.items (items_at tuple_at (l.count - l.counter) l.rest) ≡ items_at tuple_at l.count l.tokens
