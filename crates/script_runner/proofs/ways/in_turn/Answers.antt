use Rattle.std.proofs.Common.{sym, subst, ◌∙◌}
use Rattle.durable_engine.specs.State.{State}
use Rattle.script_play.specs.Sessions.{FollowsScript, HasPlayed, AllRest}
use Rattle.script_play.proofs.Places.{of_ok}
use Rattle.script_runner.proofs.ways.in_turn.Goals as goal

pub returns-clause-follows : goal.returns-clause-follows
returns-clause-follows g c =
    subst (λ (st : State g.row.D.Denot). FollowsScript c.args.script.now.items st.past) (sym c.into_engine.ensures) c.play.ensures.follows

pub returns-clause-played : goal.returns-clause-played
returns-clause-played g c = λ sufficed.
    subst (λ (st : State g.row.D.Denot). HasPlayed c.args.script.now st.names st.past) (sym c.into_engine.ensures)
    (of_ok c.play.result (sym c.is_ok-played.ensures.value ∙ sufficed) c.play.ensures.played)

pub returns-clause-rests : goal.returns-clause-rests
returns-clause-rests g c = λ sufficed.
    subst (λ (st : State g.row.D.Denot). AllRest st.past) (sym c.into_engine.ensures)
    (of_ok c.play.result (sym c.is_ok-played.ensures.value ∙ sufficed) c.play.ensures.rests)

pub play-requires-clause-named : goal.play-requires-clause-named
play-requires-clause-named g c = c.requires.playable.named
