use Rattle.std.proofs.Common.{length}
use Rattle.sql_tokens.specs.Reading.{BeginWith}
use Rattle.sql_tokens.proofs.lexed.read_all.Given as goal

abbrev pub invariant-reading : goal.invariant-reading
invariant-reading l = BeginWith l.bytes l.tokens.items l.lefts.items l.rest

abbrev pub decreases-reading : goal.decreases-reading
decreases-reading l = length l.rest
