use Rattle.std.proofs.Common.{sym, ap, subst, ◌∙◌}
use Rattle.sql_lists.specs.declared.advance.Advance.TheVariants.{NoMemory}
use Rattle.giving_up.specs.Machines.{StepsAs}
use Rattle.create_statement.specs.declared.machine.CreateStatement.{CreateStatement}
use Rattle.statement.specs.declared.under_way.Statement.{Statement}
use Rattle.statement.specs.declared.under_way.Statement.TheVariants.{Create}
use Rattle.statement.specs.Running.{IsRunning, wants_room}
use Rattle.statement.specs.Going.{statement_to_go}
use Rattle.statement.proofs.Rooms.{creation_gives_up}
use Rattle.statement.proofs.under_way.Statement.without_room.Goals as goal

pub returns-in-Create-clause-step : goal.returns-in-Create-clause-step
returns-in-Create-clause-step g c =
    let s = c.args.session in
    let lists = c.args.lists.now in
    let was = c.in-Create.is in
    subst (λ (m : Statement). StepsAs IsRunning statement_to_go s lists m lists (Create c.without_room.result) NoMemory) (sym was)
    (subst (λ (m : CreateStatement). StepsAs IsRunning statement_to_go s lists (Create c.in-Create.statement) lists (Create m) NoMemory)
    (sym c.without_room.ensures)
    (creation_gives_up s lists c.in-Create.statement (subst (IsRunning lists s) was c.requires.running) (sym (ap wants_room was) ∙ c.requires.wants)))
