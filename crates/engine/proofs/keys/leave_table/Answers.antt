use Rattle.std.proofs.Common.{◌+◌, ◌≤◌, length, arith}
use Rattle.list_world.specs.Parts.{world_of}
use Rattle.law_held_steps.proofs.Places.{none_below, one_more_below, all_gone}
use Rattle.engine.proofs.keys.leave_table.Goals as goal

pub loop-which-init : goal.loop-which-init
loop-which-init c = none_below 0 c.args.table (world_of c.args.world.now)

pub loop-which-preserved : goal.loop-which-preserved
loop-which-preserved c =
    one_more_below 0 c.args.table c.loop-which.which c.index_number.result (world_of c.args.world.now)
    (world_of c.loop-which.world) (world_of c.leave.new.self) c.loop-which.invariant c.index_number.ensures c.leave.ensures

pub returns-clause-gone : goal.returns-clause-gone
returns-clause-gone c =
    let long = c.requires.2 in
    let all = c.loop-which-test.false in
    let enough : length c.requires.0.keys + 1 ≤ c.loop-which.which = omega (arith, long, all) in
    all_gone 0 c.args.table c.loop-which.which c.requires.0 (world_of c.args.world.now) (world_of c.loop-which.world) c.requires.1
    enough c.loop-which.invariant
