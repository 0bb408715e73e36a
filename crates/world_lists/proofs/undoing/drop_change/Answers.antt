use Rattle.std.proofs.Common.{refl}
use Rattle.store_api.specs.declared.moves.Move.TheVariants.{NoMemory}
use Rattle.row_changes.specs.Reached.{Hindered}
use Rattle.world_lists.proofs.Calls.{same_no_more}
use Rattle.world_lists.proofs.Changing.{step_of, dropped, nothing_after, answer_hindered}
use Rattle.world_lists.proofs.undoing.drop_change.Goals as goal

pub returns : goal.returns
returns g c =
    let old = g.W.World.state c.args.world.now in
    step_of c.args.change (Hindered c.args.change NoMemory) (same_no_more old) refl
    (λ chains beside is. dropped c.args.session chains beside old c.args.change c.requires.untold is) (record {})
    (nothing_after c.args.change c.requires.untold) (answer_hindered c.args.change c.args.change NoMemory)
