use Rattle.std.proofs.Common.{◌≡◌, ◌-◌}
use Rattle.schema_codec.specs.Reading.{list_at}
use Rattle.log_format.specs.Reading.{value_at}
use Rattle.schema_codec.proofs.Loop.{with_front}
use Rattle.log_format.proofs.reading.values_of.Given as goal

abbrev pub invariant-loop : goal.invariant-loop
invariant-loop l = with_front l.items.items (list_at value_at (l.count - l.counter) l.rest) ≡ list_at value_at l.count l.bytes
