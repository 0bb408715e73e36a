use Rattle.std.proofs.Common.{arith}
use Rattle.std.proofs.lemmas.Grind.{common_steps}
use Rattle.store_api.specs.declared.moves.Move.TheVariants.{Again, Failed, Bad}
use Rattle.row_changes.proofs.Changing.{unchanged_stays}
use Rattle.undo_apply.specs.declared.work_room.Stage.TheVariants.{Walk}
use Rattle.undo_apply.proofs.{Telling.schemas_stay, Columns.has_key_at}
use Rattle.undo_apply.proofs.Goes.{fitting, walk_pointer, walk_over, walk_stopped, walk_looks}
use Rattle.undo_apply.proofs.key_steps.walk.Goals as goal

pub value-requires-clause-pointer : goal.value-requires-clause-pointer
value-requires-clause-pointer g c = walk_pointer 0 c.requires.under_way.3 c.args.which c.args.pointer c.requires.stage c.requires.together

pub look_at_version-requires : goal.look_at_version-requires
look_at_version-requires g c =
    let old = g.W.World.state c.args.world.now in
    let new = g.W.World.state c.value.new.self in
    let is = c.requires.under_way.3 in
    let within = fitting 0 is (Walk c.args.which c.args.pointer) c.requires.stage in
    has_key_at old.schemas new c.args.undo.now is.schema c.requires.under_way.2 c.args.which (schemas_stay (unchanged_stays old new c.value.ensures.rest))
    is.tells within

pub returns-in-Ok-true-clause-puts : goal.returns-in-Ok-true-clause-puts
returns-in-Ok-true-clause-puts g c = λ chains beside place actor is.
    let shows = rw c.in-Ok-true.field-0-test at c.in-Ok-true.ensures.answer in
    walk_looks actor is c.args.which c.args.pointer c.requires.stage c.value.new.into c.value.ensures.room (g.W.World.state c.value.new.self)
    c.value.ensures.rest shows.0 shows.1 c.look_at_version.new.room c.look_at_version.result c.look_at_version.ensures

pub returns-in-Ok-false-clause-puts : goal.returns-in-Ok-false-clause-puts
returns-in-Ok-false-clause-puts g c = λ chains beside place actor is.
    let shows = rw c.in-Ok-false.field-0-test at c.in-Ok-false.ensures.answer in
    rw (c.go_to.ensures.step, c.go_to.ensures.room) (walk_over actor is c.args.which c.args.pointer c.requires.stage c.value.new.into c.value.ensures.room
    (g.W.World.state c.value.new.self) c.value.ensures.rest shows.0)

pub returns-in-Err-Failed-clause-puts : goal.returns-in-Err-Failed-clause-puts
returns-in-Err-Failed-clause-puts g c = λ chains beside place actor is.
    walk_stopped actor is c.args.which c.args.pointer c.requires.stage c.value.new.into c.value.ensures.room (g.W.World.state c.value.new.self)
    c.value.ensures.rest Failed (λ e. cc) (rw c.in-Err-Failed.field-0-is at c.in-Err-Failed.ensures.answer)

pub returns-in-Err-Again-clause-puts : goal.returns-in-Err-Again-clause-puts
returns-in-Err-Again-clause-puts g c = λ chains beside place actor is.
    walk_stopped actor is c.args.which c.args.pointer c.requires.stage c.value.new.into c.value.ensures.room (g.W.World.state c.value.new.self)
    c.value.ensures.rest Again (λ e. cc) (rw c.in-Err-Again.field-0-is at c.in-Err-Again.ensures.answer)

pub returns-in-Err-Bad-clause-puts : goal.returns-in-Err-Bad-clause-puts
returns-in-Err-Bad-clause-puts g c = λ chains beside place actor is.
    walk_stopped actor is c.args.which c.args.pointer c.requires.stage c.value.new.into c.value.ensures.room (g.W.World.state c.value.new.self)
    c.value.ensures.rest (Bad c.in-Err-Bad.page c.in-Err-Bad.rule) (λ e. cc) (rw c.in-Err-Bad.field-0-is at c.in-Err-Bad.ensures.answer)

pub value-requires-clause-holds : goal.value-requires-clause-holds
value-requires-clause-holds g c = grind (arith, common_steps)

pub returns-in-Ok-true-clause-awaits : goal.returns-in-Ok-true-clause-awaits
returns-in-Ok-true-clause-awaits g c = grind (arith, common_steps)

pub returns-in-Ok-false-clause-awaits : goal.returns-in-Ok-false-clause-awaits
returns-in-Ok-false-clause-awaits g c = grind (arith, common_steps)

pub returns-in-Err-Failed-clause-awaits : goal.returns-in-Err-Failed-clause-awaits
returns-in-Err-Failed-clause-awaits g c = grind (arith, common_steps)

pub returns-in-Err-Again-clause-awaits : goal.returns-in-Err-Again-clause-awaits
returns-in-Err-Again-clause-awaits g c = grind (arith, common_steps)
