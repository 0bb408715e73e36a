use Rattle.std.proofs.Common.{◌∙◌, sym, ap, length}
use Rattle.script_play.proofs.Places.{stays}
use Rattle.script_play.proofs.SetUp.{over_still}
use Rattle.script_play.proofs.playing.pass.Goals as goal

pub returns-in_err-changed-clause-set_up : goal.returns-in_err-changed-clause-set_up
returns-in_err-changed-clause-set_up g c = λ over.
    over_still (g.E.Sessions.shown c.args.engine.now) (g.E.Sessions.shown c.step_on.new.engine) c.in_err-changed.ensures over

pub loop-s-init : goal.loop-s-init
loop-s-init g c =
    let still = c.in_ok-changed.ensures in
    let starts = c.requires.starts in
    record {
      settles = record {
        names = still.names;
        moment = still.moment;
        count = starts.count ∙ ap length (sym still.names);
        started = stays c.args.items.now c.args.places.now (g.E.Sessions.shown c.args.engine.now).past (g.E.Sessions.shown c.step_on.new.engine).past still.items starts.started;
      };
      set_up = λ over. over_still (g.E.Sessions.shown c.args.engine.now) (g.E.Sessions.shown c.step_on.new.engine) still over;
    }
