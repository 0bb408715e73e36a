use Rattle.std.proofs.Common.{inl, refl}
use Rattle.shared_lists.specs.Tasks.{Idle}
use Rattle.write_statement.specs.Parts.{of_rest}
use Rattle.write_statement.proofs.Turning.{turns_none, changing_given_up}
use Rattle.write_statement.proofs.changing.lack_room.Goals as goal

pub returns-clause-steps : goal.returns-clause-steps
returns-clause-steps g c =
    let r = c.requires.running in
    changing_given_up c.args.session c.args.lists.now c.args.lists.now Idle c.args.part (of_rest c.args.part) c.args.todo.items c.give_up.result.0
    c.give_up.result.1 r.0
    (turns_none c.args.session c.args.lists.now r.1) (inl refl) c.give_up.ensures.state c.give_up.ensures.answer
