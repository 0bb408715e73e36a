use Rattle.std.proofs.Common.{◌≡◌, ◌-◌}
use Rattle.sql_conditions.specs.Parts.{items_at}
use Rattle.sql_simple_statements.specs.Statements.{define_at}
use Rattle.sql_conditions.proofs.Items.{with_items}
use Rattle.sql_simple_statements.proofs.table.definitions.Given as goal

abbrev pub invariant-loop : goal.invariant-loop
invariant-loop l = with_items l.definitions.items (items_at define_at (l.count - l.counter) l.rest) ≡ items_at define_at l.count l.tokens
