use Rattle.std.proofs.Common.{◌∙◌, sym, ap, ◌+◌, length, arith}
use Rattle.std.proofs.lemmas.List.{length-set}
use Rattle.script_play.proofs.Places.{starts_item}
use Rattle.script_play.proofs.SetUp.{over_still}
use Rattle.script_play.proofs.playing.advance.Goals as goal

pub returns-clause-settles : goal.returns-clause-settles
returns-clause-settles g c =
    let starts = c.in_ok-start.ensures.ok in
    let old = g.E.Sessions.shown c.args.engine.now in
    let next = c.skip_others-next.result in
    record {
      names = starts.names;
      moment = starts.moment;
      count = length-set c.args.places.now c.args.s (next + 1) ∙ c.requires.starts.count ∙ ap length (sym starts.names);
      started =
          starts_item c.args.items.now c.args.places.now old.past (g.E.Sessions.shown c.start.new.self).past c.args.s next starts.number
          c.index-items-next.result
          (omega (arith, c.requires.joined, c.requires.starts.count))
          (omega (arith, c.if-next-items.false))
          c.skip_others-next.ensures.others (c.skip_others-next.ensures.found c.if-next-items.false c.index-items-next.result) starts.past
          c.requires.starts.started;
    }

pub returns-then-is_working-clause-set_up : goal.returns-then-is_working-clause-set_up
returns-then-is_working-clause-set_up g c = λ above over. over_still (g.E.Sessions.shown c.args.engine.now) (g.E.Sessions.shown c.step.new.engine) c.step.ensures over

pub returns-in_err-start-clause-set_up : goal.returns-in_err-start-clause-set_up
returns-in_err-start-clause-set_up g c = λ above over. over_still (g.E.Sessions.shown c.args.engine.now) (g.E.Sessions.shown c.start.new.self) c.in_err-start.ensures.err over
