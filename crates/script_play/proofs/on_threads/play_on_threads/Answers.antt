use Rattle.std.proofs.Common.{sym, ◌∙◌}
use Rattle.script_play.proofs.Places.{nobody_named}
use Rattle.script_play.proofs.ThreadsSetUp.{alone_set_up}
use Rattle.script_play.proofs.Openings.{uncalled_named, uncalled_follows}
use Rattle.script_play.proofs.on_threads.play_on_threads.Goals as goal

pub returns-in_default-clause-named : goal.returns-in_default-clause-named
returns-in_default-clause-named g c = nobody_named c.args.script.now (g.E.Recorded.board c.args.engine).names c.requires.nobody

pub returns-in_default-clause-follows : goal.returns-in_default-clause-follows
returns-in_default-clause-follows g c = uncalled_follows c.args.script.now.items (g.E.Recorded.board c.args.engine) c.requires.no_calls

pub returns-in_default-new-clause-named : goal.returns-in_default-new-clause-named
returns-in_default-new-clause-named g c = nobody_named c.args.script.now (g.E.Recorded.board c.args.engine).names c.requires.nobody

pub returns-in_default-new-clause-follows : goal.returns-in_default-new-clause-follows
returns-in_default-new-clause-follows g c = uncalled_follows c.args.script.now.items (g.E.Recorded.board c.args.engine) c.requires.no_calls

pub returns-in-Err-clause-named : goal.returns-in-Err-clause-named
returns-in-Err-clause-named g c =
    uncalled_named c.args.script.now c.in-Some.others.now (g.E.Recorded.board c.in-Err.engine)
    (sym c.as_slice.ensures ∙ c.in-Some.ensures.0) c.in-Err.ensures.err

pub returns-in-Err-clause-follows : goal.returns-in-Err-clause-follows
returns-in-Err-clause-follows g c = uncalled_follows c.args.script.now.items (g.E.Recorded.board c.in-Err.engine) c.in-Err.ensures.err.quiet

pub returns-in_default-clause-set_up : goal.returns-in_default-clause-set_up
returns-in_default-clause-set_up g c = alone_set_up (g.E.Recorded.board c.args.engine).past (λ x _. c.requires.no_calls x)

pub returns-in_default-new-clause-set_up : goal.returns-in_default-new-clause-set_up
returns-in_default-new-clause-set_up g c = alone_set_up (g.E.Recorded.board c.args.engine).past (λ x _. c.requires.no_calls x)

pub returns-in-Err-clause-set_up : goal.returns-in-Err-clause-set_up
returns-in-Err-clause-set_up g c = alone_set_up (g.E.Recorded.board c.in-Err.engine).past (λ x _. c.in-Err.ensures.err.quiet x)
