use Rattle.std.proofs.Common.{◌≡◌, take}
use Rattle.sql_grammar.specs.Grammar.{number_of}
use Rattle.sql_conditions.proofs.literals.number.Given as goal

abbrev pub invariant-loop-digit : goal.invariant-loop-digit
invariant-loop-digit l = l.number ≡ number_of (take l.digit-index l.digits)
