use Rattle.std.proofs.lemmas.Grind.{common_steps}
use Rattle.std.proofs.Common.{◌<◌, length, arith}
use Rattle.world_lists.proofs.Made.{pushed, joined_kept, joined_tasks}
use Rattle.world_lists.proofs.steps.WorldListsSharedLists.join.Goals as goal

pub invariant_of-self-2 : goal.invariant_of-self-2
invariant_of-self-2 g c =
    let few : length (g.W.World.state c.self.inside.world).names < 68
    = omega (arith, c.if-len-ge-MOST_SESSIONS.false, c.len.ensures, c.self.invariant.held.count) in
    joined_kept 0 c.self.invariant c.self.view_is c.in_ok-desk.ensures {now = c.push.new.self.items}
    (pushed c.push.result _ {items = c.push.new.self.items} c.unwrap.ensures c.push.ensures.items c.reserve.ensures.items) c.args.name c.in-Ok.ensures.ok
    (g.met.W.EngineWorld.never_delays c.self.inside.world).told few

pub returns-clause-tasks : goal.returns-clause-tasks
returns-clause-tasks g c =
    joined_tasks 0 c.self.invariant c.self.view_is c.in_ok-desk.ensures {now = c.push.new.self.items}
    (pushed c.push.result _ {items = c.push.new.self.items} c.unwrap.ensures c.push.ensures.items c.reserve.ensures.items) c.args.name c.in-Ok.ensures.ok

pub returns-clause-settings : goal.returns-clause-settings
returns-clause-settings g c = grind (arith, common_steps) steps 2000000
