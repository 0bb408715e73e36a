use Rattle.std.proofs.Common.{◌∙◌, refl, sym, ap, subst, length, arith}
use Rattle.script_play.specs.Sessions.{Shown, IsOver, Plays}
use Rattle.script_play.proofs.Places.{more_known, whole_known, no_further, seconds_more}
use Rattle.script_play.proofs.playing.play_items.Goals as goal

pub set_up-requires-clause-starts : goal.set_up-requires-clause-starts
set_up-requires-clause-starts g c =
    let within = c.setup_items-known.ensures.within in
    record {
      names = refl;
      count = c.requires.starts.count;
      started = more_known c.args.items.now 0 c.setup_items-known.result c.args.places.now (g.E.Sessions.shown c.args.engine.now).past (omega arith)
          (omega arith) c.requires.starts.started;
    }

pub loop-tick-preserved : goal.loop-tick-preserved
loop-tick-preserved g c =
    let i = c.loop-tick.invariant in
    let until = c.in_ok-known.ensures in
    let passed = c.in_ok-pass_time.ensures.ok in
    let s = c.in_ok-settle.ensures in
    let within = i.within in
    let known = until.until in
    let before = until.settles.moment in
    let i_moment = i.moment in
    let more = seconds_more c.args.ticks.now c.loop-tick.tick-index (record { items = 0; seconds = 0 }) c.loop-tick-test.true in
    record {
      within = omega (arith, within, known);
      plays = record {
        names = s.settles.names ∙ (ap (λ (x : Shown). x.names) passed ∙ (until.settles.names ∙ i.plays.names));
        count = s.settles.count;
        started = s.settles.started;
      };
      over = s.set_up (subst IsOver (sym (ap (λ (x : Shown). x.past) passed)) (until.set_up i.over));
      first =
          let some = i.first in
          let count = i.plays.count in
          let counted = s.settles.count in
          let same = ap length (s.settles.names ∙ (ap (λ (x : Shown). x.names) passed ∙ until.settles.names)) in
          omega (arith, some, count, counted, same);
      moment = s.settles.moment ∙ (ap (λ (x : Shown). x.moment) passed ∙ omega (arith, before, i_moment, more));
    }

pub returns-in_err-set_up-clause-plays : goal.returns-in_err-set_up-clause-plays
returns-in_err-set_up-clause-plays g c =
    let s = c.set_up.ensures.settles in
    record {
      names = s.names;
      count = s.count;
      started = whole_known c.args.items.now c.setup_items-known.result c.set_up.new.places (g.E.Sessions.shown c.set_up.new.engine).past
          c.setup_items-known.ensures.within s.started;
    }

pub returns-in_err-play_until-clause-plays : goal.returns-in_err-play_until-clause-plays
returns-in_err-play_until-clause-plays g c =
    let s = c.play_until-2.ensures.settles in
    record { names = s.names ∙ c.loop-tick.invariant.plays.names; count = s.count; started = s.started }

pub returns-in_err-pass_time-clause-plays : goal.returns-in_err-pass_time-clause-plays
returns-in_err-pass_time-clause-plays g c =
    let s = c.play_until.ensures.settles in
    subst (λ (x : Shown). Plays c.args.items.now c.play_until.new.places (g.E.Sessions.shown c.args.engine.now) x) (sym c.in_err-pass_time.ensures.err)
    (record { names = s.names ∙ c.loop-tick.invariant.plays.names; count = s.count; started = s.started })

pub returns-in_err-settle-clause-plays : goal.returns-in_err-settle-clause-plays
returns-in_err-settle-clause-plays g c =
    let s = c.settle.ensures.settles in
    let until = c.play_until.ensures.settles in
    record {
      names = s.names ∙ (ap (λ (x : Shown). x.names) c.in_ok-pass_time.ensures.ok ∙ (until.names ∙ c.loop-tick.invariant.plays.names));
      count = s.count;
      started = whole_known c.args.items.now c.in_ok-known.known c.settle.new.places (g.E.Sessions.shown c.settle.new.engine).past
          (no_further _ _ _ _ c.loop-tick.invariant.within c.in_ok-known.ensures.until) s.started;
    }

pub returns-in_err-known-clause-plays : goal.returns-in_err-known-clause-plays
returns-in_err-known-clause-plays g c =
    let s = c.play_until.ensures.settles in
    record { names = s.names ∙ c.loop-tick.invariant.plays.names; count = s.count; started = s.started }

pub returns-in_err-leave_all-clause-plays : goal.returns-in_err-leave_all-clause-plays
returns-in_err-leave_all-clause-plays g c =
    let s = c.leave_all.ensures.plays in
    record {
      names = s.names ∙ (c.play_until-2.ensures.settles.names ∙ c.loop-tick.invariant.plays.names);
      count = s.count;
      started = s.started;
    }
