use Rattle.std.proofs.Common.{◌∷◌, sym, refl}
use Rattle.sql_conditions.specs.declared.conditions.Frame.TheVariants as frame
use Rattle.sql_conditions.proofs.Waiting.{waits_and, waits_or, closes_bracket, and_in_brackets, or_in_brackets, closing_in_brackets, open_in_brackets}
use Rattle.sql_conditions.proofs.conditions.close_bracket.Goals as goal

pub returns-in_ok-push_two-in-And-clause-exact : goal.returns-in_ok-push_two-in-And-clause-exact
returns-in_ok-push_two-in-And-clause-exact c =
    and_in_brackets c.args.operand c.args.stack.now c.push_two.new.self c.args.tokens.now c.in-And.rest.now c.in_ok-push_two-in-And.ensures (sym c.in-And.ensures)

pub returns-in_ok-push_two-in-And-clause-spelled : goal.returns-in_ok-push_two-in-And-clause-spelled
returns-in_ok-push_two-in-And-clause-spelled c = λ all h.
    waits_and all (frame.Open ∷ c.args.stack.now) c.push_two.new.self c.args.operand c.args.tokens.now c.in-And.rest.now c.in_ok-push_two-in-And.ensures tt (sym c.in-And.ensures) h

pub returns-in_ok-push_two-in-Or-clause-exact : goal.returns-in_ok-push_two-in-Or-clause-exact
returns-in_ok-push_two-in-Or-clause-exact c =
    or_in_brackets c.args.operand c.args.stack.now c.push_two-in-Or.new.self c.args.tokens.now c.in-Or.rest.now c.in_ok-push_two-in-Or.ensures (sym c.in-Or.ensures)

pub returns-in_ok-push_two-in-Or-clause-spelled : goal.returns-in_ok-push_two-in-Or-clause-spelled
returns-in_ok-push_two-in-Or-clause-spelled c = λ all h.
    waits_or all (frame.Open ∷ c.args.stack.now) c.push_two-in-Or.new.self c.args.operand c.args.tokens.now c.in-Or.rest.now c.in_ok-push_two-in-Or.ensures tt (sym c.in-Or.ensures) h

pub returns-in-Close-clause-exact : goal.returns-in-Close-clause-exact
returns-in-Close-clause-exact c = closing_in_brackets c.args.stack.now c.args.tokens.now c.in-Close.rest.now (sym c.in-Close.ensures)

pub returns-in-Close-clause-spelled : goal.returns-in-Close-clause-spelled
returns-in-Close-clause-spelled c = λ all h. closes_bracket all c.args.stack.now c.args.operand c.args.tokens.now c.in-Close.rest.now (sym c.in-Close.ensures) h

pub returns-in-Other-clause-exact : goal.returns-in-Other-clause-exact
returns-in-Other-clause-exact c = rw c.unexpected.ensures (c.args.tokens.now, open_in_brackets c.args.stack.now c.args.tokens.now (sym c.in-Other.ensures), refl)
