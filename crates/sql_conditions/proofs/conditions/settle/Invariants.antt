use Rattle.std.proofs.Common.{◌≡◌, List, length}
use Rattle.sql_grammar.specs.declared.token.Token.{Token}
use Rattle.sql_conditions.specs.Conditions.{HasOperand, settle, marks}
use Rattle.sql_conditions.proofs.conditions.settle.Given as goal

abbrev pub invariant-frames : goal.invariant-frames
invariant-frames l = record {
  joins : (all : List Token) → HasOperand all l.initial.stack l.fn.operand l.tokens → HasOperand all l.stack l.joined l.rest;
  same : settle (marks l.stack) l.rest ≡ settle (marks l.initial.stack) l.tokens;
}

abbrev pub decreases-frames : goal.decreases-frames
decreases-frames l = length l.stack
