use Rattle.std.proofs.Common.{[], ◌∷◌, ◌++◌, inl, refl}
use Rattle.shared_lists.specs.Tasks.{Idle}
use Rattle.write_statement.specs.Parts.{of_rest}
use Rattle.write_statement.proofs.Turning.{turns_none, changing_given_up, broke_off}
use Rattle.write_statement.proofs.changing.make.Goals as goal

pub returns-in-Some-clause-steps : goal.returns-in-Some-clause-steps
returns-in-Some-clause-steps g c =
    broke_off c.args.session c.args.lists.now c.args.part (of_rest c.args.part) c.args.todo.items c.args.change c.in-Put.table _ c.in-Some.rows
    c.break_off.result.0
    c.break_off.result.1 c.requires.changing c.requires.idle c.in-Put.is
    c.in-Some.ensures.many.0 c.in-Some.ensures.many.1 c.break_off.ensures.state c.break_off.ensures.answer

pub returns-clause-steps : goal.returns-clause-steps
returns-clause-steps g c =
    changing_given_up c.args.session c.args.lists.now c.args.lists.now Idle c.args.part (of_rest c.args.part)
    (c.args.todo.items ++ c.args.change ∷ []) c.give_up.result.0
    c.give_up.result.1 c.requires.changing
    (turns_none c.args.session c.args.lists.now c.requires.idle) (inl refl) c.give_up.ensures.state c.give_up.ensures.answer
