use Rattle.std.proofs.Common.{◌∷◌, sym}
use Rattle.sql_conditions.specs.declared.conditions.Frame.TheVariants as frame
use Rattle.sql_conditions.proofs.Waiting.{waits_and, closes_or, waits_in_disjunction, goes_in_disjunction, no_and_at}
use Rattle.sql_conditions.proofs.conditions.close_or.Goals as goal

pub returns-in_ok-push_two-in-And-clause-exact : goal.returns-in_ok-push_two-in-And-clause-exact
returns-in_ok-push_two-in-And-clause-exact c =
    waits_in_disjunction c.args.left c.args.operand c.args.stack.now c.push_two.new.self c.args.tokens.now c.in-And.rest.now
    c.in_ok-push_two-in-And.ensures (sym c.in-And.ensures)

pub returns-in_ok-push_two-in-And-clause-spelled : goal.returns-in_ok-push_two-in-And-clause-spelled
returns-in_ok-push_two-in-And-clause-spelled c = λ all h.
    waits_and all (frame.Or c.args.left ∷ c.args.stack.now) c.push_two.new.self c.args.operand c.args.tokens.now c.in-And.rest.now
    c.in_ok-push_two-in-And.ensures tt (sym c.in-And.ensures) h

pub returns-in_ok-left-in_default-clause-exact : goal.returns-in_ok-left-in_default-clause-exact
returns-in_ok-left-in_default-clause-exact c =
    goes_in_disjunction c.args.stack.now c.args.tokens.now (no_and_at c.next_of.result c.args.tokens.now c.next_of.ensures c.in_default.not-And)

pub returns-in_ok-left-in_default-clause-spelled : goal.returns-in_ok-left-in_default-clause-spelled
returns-in_ok-left-in_default-clause-spelled c = λ all h.
    closes_or all c.args.stack.now c.args.left c.args.operand _ _ _ _ c.args.tokens.now
    (no_and_at c.next_of.result c.args.tokens.now c.next_of.ensures c.in_default.not-And) c.in_ok-left-in_default.ensures.0
    c.in_ok-left-in_default.ensures.1 h
