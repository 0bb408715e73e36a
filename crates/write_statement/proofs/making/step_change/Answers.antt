use Rattle.std.proofs.Common.{ap, ◌∙◌}
use Rattle.store_api.specs.declared.stepped.Stepped.TheVariants.{Done}
use Rattle.write_statement.proofs.Entering.{at_change, may_be_made, removes, change_went, change_entered, change_done, change_fails}
use Rattle.write_statement.proofs.making.step_change.Goals as goal

pub change-requires : goal.change-requires
change-requires g c =
    let s = c.args.session in
    let old = c.args.lists.now in
    let m = c.args.statement.now in
    let now = at_change s old old m c.requires.changing c.requires.running in
    record {
      joined = c.requires.joined;
      locked = now.0;
      changing = now.2;
      alone = now.1;
      may = may_be_made s old old m c.requires.changing c.requires.running c.requires.within;
      removes = removes s old old m c.requires.changing c.requires.running c.history.ensures.fits c.history.ensures.sound c.history.ensures.ordered
          c.history.ensures.tables;
    }

pub returns-in-Went-clause-steps : goal.returns-in-Went-clause-steps
returns-in-Went-clause-steps g c =
    change_went c.args.session c.args.lists.now c.change.new.self c.args.statement.now c.change.result c.requires.changing c.requires.running
    c.in-Went.is c.change.ensures.changes

pub returns-in-Done-Record-clause-steps : goal.returns-in-Done-Record-clause-steps
returns-in-Done-Record-clause-steps g c =
    rw (c.replace.ensures.after) (
    change_entered c.args.session c.args.lists.now c.change.new.self c.args.statement.now c.change.result c.parts-part.result.0 c.parts-part.result.1
    c.parts-part.ensures c.requires.running (c.in-Done-Record.is ∙ ap Done c.in-Done-Record.field-0-is) c.change.ensures.changes
    )

pub returns-in-Done-Keys-clause-steps : goal.returns-in-Done-Keys-clause-steps
returns-in-Done-Keys-clause-steps g c =
    rw (c.replace-in-Done-Keys.ensures.after) (
    change_done c.args.session c.args.lists.now c.change.new.self c.args.statement.now c.change.result
    c.parts-part-in-Done-Keys.result.0 c.parts-part-in-Done-Keys.result.1 c.parts-part-in-Done-Keys.ensures c.requires.running
    (c.in-Done-Keys.is ∙ ap Done c.in-Done-Keys.field-0-is) c.change.ensures.changes
    )

pub returns-in-Hindered-clause-steps : goal.returns-in-Hindered-clause-steps
returns-in-Hindered-clause-steps g c =
    rw (c.replace-in-Hindered.ensures.after) (
    change_fails c.args.session c.args.lists.now c.change.new.self c.args.statement.now c.change.result
    c.in-Hindered.why c.parts-part-in-Hindered.result.0 c.parts-part-in-Hindered.result.1 c.give_up_for-next.result.0 c.give_up_for-next.result.1
    c.parts-part-in-Hindered.ensures c.requires.running c.in-Hindered.is c.change.ensures.changes c.give_up_for-next.ensures.state
    c.give_up_for-next.ensures.answer
    )
