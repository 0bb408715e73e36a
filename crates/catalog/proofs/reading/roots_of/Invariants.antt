use Rattle.std.proofs.Common.{◌≡◌, ◌-◌}
use Rattle.schema_codec.specs.Reading.{u32_at, list_at}
use Rattle.schema_codec.proofs.Loop.{with_front}
use Rattle.catalog.proofs.reading.roots_of.Given as goal

abbrev pub invariant-loop : goal.invariant-loop
invariant-loop l = with_front l.items.items (list_at u32_at (l.count - l.counter) l.rest) ≡ list_at u32_at l.count l.bytes
