use Rattle.statement.proofs.Looking.{wants_memory}
use Rattle.std.proofs.Common.{refl}
use Rattle.inno_types.specs.declared.reply.Reply.TheVariants.{NoMemory}
use Rattle.giving_up.proofs.Moving.{ended}
use Rattle.statement.specs.declared.under_way.Statement.TheVariants.{Ended}
use Rattle.statement.specs.Running.{IsRunning}
use Rattle.statement.proofs.under_way.give_up.Goals as goal

pub end-requires-clause-may : goal.end-requires-clause-may
end-requires-clause-may g c = wants_memory c.args.session c.requires.running.0 c.args.lists.now.past c.requires.running.1

pub returns-clause-steps : goal.returns-clause-steps
returns-clause-steps g c =
    let r = c.requires.running in
    ended IsRunning c.args.session c.args.lists.now c.end.new.self NoMemory NoMemory Ended refl r.1.rows_alone r.2 c.end.ensures
