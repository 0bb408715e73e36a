use Rattle.std.proofs.Common.{◌≡◌, length}
use Rattle.sql_grammar.specs.Tokens as spelled
use Rattle.sql_tokens.proofs.quote.quoted.Given as goal

abbrev pub invariant-loop-rest : goal.invariant-loop-rest
invariant-loop-rest l = spelled.with_front l.name.items (spelled.quoted l.quote l.rest) ≡ spelled.quoted l.quote l.bytes

abbrev pub decreases-loop-rest : goal.decreases-loop-rest
decreases-loop-rest l = length l.rest
