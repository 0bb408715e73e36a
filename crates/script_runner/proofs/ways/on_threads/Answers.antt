use Rattle.std.proofs.Common.{List, sym, subst, ◌∙◌}
use denote.Param.Send.{param_send, arg_send}
use Rattle.shared_engine.proofs.Sending.{shared_sends}
use Rattle.script.specs.declared.script.Script.{Script}
use Rattle.durable_engine.specs.State.{State}
use Rattle.script_play.specs.Sessions.{AreNamed, FollowsScript, HasPlayed, AllRest}
use Rattle.script_play.proofs.Places.{of_ok}
use Rattle.script_runner.proofs.Taking.{all_taken}
use Rattle.script_runner.proofs.ways.on_threads.Goals as goal

pub returns-clause-follows : goal.returns-clause-follows
returns-clause-follows g c =
    subst (λ (st : State g.row.D.Denot). FollowsScript c.args.script.now.items st.past) (sym c.into_engine.ensures) c.play_on_threads-shared.ensures.follows

pub returns-clause-played : goal.returns-clause-played
returns-clause-played g c = λ sufficed.
    subst (λ (st : State g.row.D.Denot). HasPlayed c.args.script.now st.names st.past) (sym c.into_engine.ensures)
    (of_ok c.play_on_threads-shared.result.1 (sym c.is_ok-played.ensures.value ∙ sufficed) c.play_on_threads-shared.ensures.played)

pub returns-clause-rests : goal.returns-clause-rests
returns-clause-rests g c = λ sufficed.
    subst (λ (st : State g.row.D.Denot). AllRest st.past) (sym c.into_engine.ensures)
    (of_ok c.play_on_threads-shared.result.1 (sym c.is_ok-played.ensures.value ∙ sufficed) c.play_on_threads-shared.ensures.rests)

pub play_on_threads-shared-requires-send-E : goal.play_on_threads-shared-requires-send-E
play_on_threads-shared-requires-send-E g c = λ κs bounds.
    let disk = c.type_bounds.send-D in
    let root = c.type_bounds.send-B in
    let lists = c.type_bounds.send-L in
    search (param_send, arg_send, shared_sends) depth 12

pub play_on_threads-shared-requires-clause-each_named : goal.play_on_threads-shared-requires-clause-each_named
play_on_threads-shared-requires-clause-each_named g c = λ κs bounds. c.requires.playable.named

pub play_on_threads-shared-requires-clause-takes : goal.play_on_threads-shared-requires-clause-takes
play_on_threads-shared-requires-clause-takes g c = λ κs bounds. all_taken c.args.script.now.items
