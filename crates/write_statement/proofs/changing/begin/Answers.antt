use Rattle.std.proofs.Common.{[], ◌∷◌, ◌++◌, inl, refl}
use Rattle.shared_lists.specs.Tasks.{Idle}
use Rattle.law_claims.specs.Claims.{Tables}
use Rattle.law_claims.proofs.Keeping.{keeper_writes}
use Rattle.write_statement.specs.Parts.{of_rest}
use Rattle.write_statement.proofs.Changes.{fits}
use Rattle.write_statement.proofs.Turning.{turns_stayed, changing_given_up, begun}
use Rattle.write_statement.proofs.changing.begin.Goals as goal

pub begin_change-requires-clause-locked : goal.begin_change-requires-clause-locked
begin_change-requires-clause-locked g c =
    keeper_writes c.args.session Tables c.args.lists.now.past c.args.lists.now.writer (c.requires.changing.keeps Tables tt)

pub begin_change-requires-clause-fits : goal.begin_change-requires-clause-fits
begin_change-requires-clause-fits g c =
    fits c.args.lists.now.past c.args.lists.now.writer c.args.session c.args.part (of_rest c.args.part) c.args.todo.items c.args.change
    c.requires.changing c.history.ensures.fits c.history.ensures.sound c.history.ensures.ordered

pub returns-in-Ok-clause-steps : goal.returns-in-Ok-clause-steps
returns-in-Ok-clause-steps g c =
    begun c.args.session c.args.lists.now c.begin_change.new.self c.args.part c.args.todo c.args.change c.args.rows c.requires.changing c.requires.of_row
    c.requires.rows_are c.in-Ok.ensures.ok c.in-Ok.ensures.changing c.in-Ok.ensures.asked

pub returns-in-Err-clause-steps : goal.returns-in-Err-clause-steps
returns-in-Err-clause-steps g c =
    changing_given_up c.args.session c.args.lists.now c.begin_change.new.self Idle c.args.part (of_rest c.args.part)
    (c.args.todo.items ++ c.args.change ∷ []) c.give_up.result.0
    c.give_up.result.1 c.requires.changing
    (turns_stayed c.args.session c.args.lists.now c.begin_change.new.self c.in-Err.ensures.err c.requires.idle) (inl refl) c.give_up.ensures.state
    c.give_up.ensures.answer
