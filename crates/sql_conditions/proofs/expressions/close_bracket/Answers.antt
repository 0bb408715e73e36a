use Rattle.std.proofs.Common.{◌∷◌, sym, refl}
use Rattle.sql_conditions.specs.declared.expressions.Frame.TheVariants as frame
use Rattle.sql_conditions.proofs.Operands.{waits_times, waits_plus, waits_minus, closes_bracket, times_in_brackets, plus_in_brackets, minus_in_brackets, closing_in_brackets, open_in_brackets}
use Rattle.sql_conditions.proofs.expressions.close_bracket.Goals as goal

pub returns-in_ok-push_two-in-Times-clause-exact : goal.returns-in_ok-push_two-in-Times-clause-exact
returns-in_ok-push_two-in-Times-clause-exact c = times_in_brackets c.args.operand c.args.stack.now c.push_two.new.self c.args.tokens.now c.in-Times.rest.now c.in_ok-push_two-in-Times.ensures (sym c.in-Times.ensures)

pub returns-in_ok-push_two-in-Times-clause-spelled : goal.returns-in_ok-push_two-in-Times-clause-spelled
returns-in_ok-push_two-in-Times-clause-spelled c = λ all h.
    waits_times all (frame.Open ∷ c.args.stack.now) c.push_two.new.self c.args.operand c.args.tokens.now c.in-Times.rest.now c.in_ok-push_two-in-Times.ensures tt (sym c.in-Times.ensures) h

pub returns-in_ok-push_two-in-Plus-clause-exact : goal.returns-in_ok-push_two-in-Plus-clause-exact
returns-in_ok-push_two-in-Plus-clause-exact c = plus_in_brackets c.args.operand c.args.stack.now c.push_two-in-Plus.new.self c.args.tokens.now c.in-Plus.rest.now c.in_ok-push_two-in-Plus.ensures (sym c.in-Plus.ensures)

pub returns-in_ok-push_two-in-Plus-clause-spelled : goal.returns-in_ok-push_two-in-Plus-clause-spelled
returns-in_ok-push_two-in-Plus-clause-spelled c = λ all h.
    waits_plus all (frame.Open ∷ c.args.stack.now) c.push_two-in-Plus.new.self c.args.operand c.args.tokens.now c.in-Plus.rest.now c.in_ok-push_two-in-Plus.ensures tt (sym c.in-Plus.ensures) h

pub returns-in_ok-push_two-in-Minus-clause-exact : goal.returns-in_ok-push_two-in-Minus-clause-exact
returns-in_ok-push_two-in-Minus-clause-exact c = minus_in_brackets c.args.operand c.args.stack.now c.push_two-in-Minus.new.self c.args.tokens.now c.in-Minus.rest.now c.in_ok-push_two-in-Minus.ensures (sym c.in-Minus.ensures)

pub returns-in_ok-push_two-in-Minus-clause-spelled : goal.returns-in_ok-push_two-in-Minus-clause-spelled
returns-in_ok-push_two-in-Minus-clause-spelled c = λ all h.
    waits_minus all (frame.Open ∷ c.args.stack.now) c.push_two-in-Minus.new.self c.args.operand c.args.tokens.now c.in-Minus.rest.now c.in_ok-push_two-in-Minus.ensures tt (sym c.in-Minus.ensures) h

pub returns-in-Close-clause-exact : goal.returns-in-Close-clause-exact
returns-in-Close-clause-exact c = closing_in_brackets c.args.stack.now c.args.tokens.now c.in-Close.rest.now (sym c.in-Close.ensures)

pub returns-in-Close-clause-spelled : goal.returns-in-Close-clause-spelled
returns-in-Close-clause-spelled c = λ all h. closes_bracket all c.args.stack.now c.args.operand c.args.tokens.now c.in-Close.rest.now (sym c.in-Close.ensures) h

pub returns-in-Other-clause-exact : goal.returns-in-Other-clause-exact
returns-in-Other-clause-exact c = rw c.unexpected.ensures (c.args.tokens.now, open_in_brackets c.args.stack.now c.args.tokens.now (sym c.in-Other.ensures), refl)
