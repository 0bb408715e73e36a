use Rattle.std.proofs.Common.{ap, ◌∙◌}
use Rattle.std.specs.Prelude.{slice_get}
use Rattle.world.specs.State.{WorldState}
use Rattle.tests_world.proofs.Keeping.{both_on}
use Rattle.tests_world.proofs.waiting.fall_second.Goals as goal

pub returns : goal.returns
returns g c =
    let mine = c.requires.both.second in
    record {
      both = both_on (g.W.World.state c.args.world.now) (g.W.World.state c.fall.new.self)
          (ap (λ (state : WorldState). state.sessions) (c.fall.ensures mine.session mine.work
          (record {
            session_is = ap (λ (state : WorldState). slice_get state.sessions 1) c.cycle.ensures.same ∙ mine.has_work.session_is;
            work_is = mine.has_work.work_is;
          }))
          ∙ ap (λ (state : WorldState). state.sessions) c.cycle.ensures.same) c.requires.both;
    }
