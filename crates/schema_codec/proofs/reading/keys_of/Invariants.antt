use Rattle.std.proofs.Common.{◌≡◌, ◌-◌}
use Rattle.schema_codec.specs.Reading.{key_at, list_at}
use Rattle.schema_codec.proofs.Loop.{with_front}
use Rattle.schema_codec.proofs.reading.keys_of.Given as goal

abbrev pub invariant-loop : goal.invariant-loop
invariant-loop l = with_front l.items.items (list_at key_at (l.count - l.counter) l.rest) ≡ list_at key_at l.count l.bytes
