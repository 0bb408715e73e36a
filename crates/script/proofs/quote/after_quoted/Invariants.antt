use Rattle.std.proofs.Common.{◌≡◌, ◌≤◌, length}
use Rattle.sql_grammar.specs.Tokens as tokens
use Rattle.script.specs.Parts as spelled
use Rattle.script.proofs.quote.after_quoted.Given as goal

abbrev pub invariant-loop-rest : goal.invariant-loop-rest
invariant-loop-rest l = record {
  same : spelled.behind (tokens.quoted l.quote l.rest) ≡ spelled.behind (tokens.quoted l.quote l.bytes);
  shorter : length l.rest ≤ length l.bytes;
}

abbrev pub decreases-loop-rest : goal.decreases-loop-rest
decreases-loop-rest l = length l.rest
