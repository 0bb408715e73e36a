use Rattle.std.proofs.Common.{refl, sym, ap, subst}
use Rattle.store_api.specs.declared.answers.Standing.{Standing}
use Rattle.read_view.specs.Sight.{Sight as ReadSight}
use Rattle.desks.specs.Holding.{IsOwnView}
use Rattle.law_held_steps.specs.Begun.{HasView}
use Rattle.law_held_steps.proofs.Stepping.{own_view}
use Rattle.world_lists.proofs.reading.own_sight.Goals as goal
use Rattle.world.specs.{State.WorldState, Sessions.IsShown}

pub returns-in-Some : goal.returns-in-Some
returns-in-Some g c =
    let state : WorldState = g.W.World.state c.args.world.now in
    let has : HasView c.args.session state = c.requires in
    let shown : IsShown has.work.view c.view.new.into c.in_ok-next.field-0 = c.in_ok-next.ensures.shown has.session has.work has.has_work in
    let reader = c.session-own.result.id in (
      c.in_ok-view-in-Some.view,
      reader,
      refl,
      subst (λ (view : ReadSight). IsOwnView state c.args.session view reader) (sym c.in_ok-view-in-Some.ensures) (own_view c.view.new.into c.in_ok-next.field-0
          has shown c.in-Some.next reader c.in-Some.is (ap (λ (standing : Standing). standing.id) (c.session-own.ensures has.session has.has_work.session_is))),
    )
