use Rattle.std.proofs.Common.{◌≡◌, ◌-◌}
use Rattle.schema_codec.specs.Reading.{list_at}
use Rattle.log_format.specs.Reading.{record_at}
use Rattle.schema_codec.proofs.Loop.{with_front}
use Rattle.log_format.proofs.reading.records_of.Given as goal

abbrev pub invariant-loop : goal.invariant-loop
invariant-loop l = with_front l.items.items (list_at record_at (l.count - l.counter) l.rest) ≡ list_at record_at l.count l.bytes
