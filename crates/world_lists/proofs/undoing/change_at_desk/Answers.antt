use Rattle.std.proofs.Common.{sym, ◌∙◌}
use Rattle.world_lists.proofs.Changing.{may_there, steps_there}
use Rattle.world_lists.proofs.undoing.change_at_desk.Goals as goal

pub step_change-changed-requires : goal.step_change-changed-requires
step_change-changed-requires g c =
    may_there c.args.session c.args.desks.now.items c.requires.joined c.index_mut-desk.ensures.value c.in-Changing.is c.requires.changing

pub returns : goal.returns
returns g c =
    steps_there c.args.session c.args.desks.now.items c.requires.joined c.index_mut-desk.ensures.value c.in-Changing.is c.step_change-changed.ensures
    (c.replace.ensures.after ∙ c.in-Some.ensures.over c.in-Changing.change c.step_change-changed.new.change c.is_told-is_told.ensures)

pub returns-in-None : goal.returns-in-None
returns-in-None g c =
    steps_there c.args.session c.args.desks.now.items c.requires.joined c.index_mut-desk.ensures.value c.in-Changing.is c.step_change-changed.ensures
    (sym (c.in-None.ensures.stays c.in-Changing.change c.step_change-changed.new.change))
