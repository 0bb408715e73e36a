use Rattle.world_lists.proofs.undoing.step_change.Goals as goal
use Rattle.store_api.specs.declared.stepped.Stepped.TheVariants as stepped
use Rattle.std.proofs.Common.{refl, ap, ◌∙◌}
use Rattle.row_changes.specs.{Reached.Went, Reached.Done, Reached.Hindered, InPlace.reached_at}
use Rattle.world_lists.proofs.Changing.{its_start, changed_as, step_of, answer_over, answer_hindered, lies_there, wants_of}

pub advance-requires : goal.advance-requires
advance-requires g c = its_start c.requires

pub hindrance_of-requires : goal.hindrance_of-requires
hindrance_of-requires g c =
    wants_of c.args.session (g.W.World.state c.args.world.now) (g.W.World.state c.advance.new.world) c.args.change.now c.advance.new.self
    c.in-Hindered.why (g.met.W.EngineWorld.never_delays c.args.world.now) (g.met.W.EngineWorld.never_delays c.advance.new.world) c.requires
    c.advance.ensures.makes (ap (reached_at c.advance.new.self) c.in-Hindered.is)

pub returns-in-Went : goal.returns-in-Went
returns-in-Went g c =
    let answer_is = c.answer_for.ensures c.args.change.now c.is_told-is_told.ensures in
    step_of c.args.change.now (Went c.advance.new.self) c.advance.ensures.awaits (ap (reached_at c.advance.new.self) c.in-Went.is)
    (changed_as _ _ _ _ _ c.advance.ensures.makes) (record {}) (lies_there c.args.change.now c.advance.new.self answer_is) answer_is

pub returns-in-Done : goal.returns-in-Done
returns-in-Done g c =
    step_of c.args.change.now Done c.advance.ensures.awaits (ap (reached_at c.advance.new.self) c.in-Done.is)
    (changed_as _ _ _ _ _ c.advance.ensures.makes) (record {}) refl (answer_over c.args.change.now)

pub returns-in-Hindered : goal.returns-in-Hindered
returns-in-Hindered g c =
    step_of c.args.change.now (Hindered c.advance.new.self c.in-Hindered.why) c.advance.ensures.awaits
    (ap (reached_at c.advance.new.self) c.in-Hindered.is) (changed_as _ _ _ _ _ c.advance.ensures.makes)
    (wants_of c.args.session (g.W.World.state c.args.world.now) (g.W.World.state c.advance.new.world) c.args.change.now c.advance.new.self
    c.in-Hindered.why (g.met.W.EngineWorld.never_delays c.args.world.now) (g.met.W.EngineWorld.never_delays c.advance.new.world) c.requires
    c.advance.ensures.makes (ap (reached_at c.advance.new.self) c.in-Hindered.is)) refl
    (ap stepped.Hindered c.hindrance_of.ensures ∙ answer_hindered c.args.change.now c.advance.new.self c.in-Hindered.why)
