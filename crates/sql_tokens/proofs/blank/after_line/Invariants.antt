use Rattle.std.proofs.Common.{◌≡◌, length}
use Rattle.sql_grammar.specs.Tokens as spelled
use Rattle.sql_tokens.proofs.blank.after_line.Given as goal

abbrev pub invariant-loop-rest : goal.invariant-loop-rest
invariant-loop-rest l = spelled.after_line l.rest ≡ spelled.after_line l.bytes

abbrev pub decreases-loop-rest : goal.decreases-loop-rest
decreases-loop-rest l = length l.rest
