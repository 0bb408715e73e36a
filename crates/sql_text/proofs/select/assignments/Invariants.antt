use Rattle.std.proofs.Common.{◌≡◌, ◌-◌}
use Rattle.sql_conditions.specs.Parts.{items_at}
use Rattle.sql_text.specs.Whole.{assignment_at, columns_of}
use Rattle.sql_conditions.proofs.Items.{with_items}
use Rattle.sql_text.proofs.SoundStatements.{Begun}
use Rattle.sql_text.proofs.select.assignments.Given as goal

abbrev pub invariant-loop : goal.invariant-loop
invariant-loop l = record {
  begun : Begun l.tokens l.sets.items l.rest;
  left : with_items (columns_of l.sets.items) (items_at assignment_at (l.count - l.counter) l.rest) ≡ items_at assignment_at l.count l.tokens;
}
