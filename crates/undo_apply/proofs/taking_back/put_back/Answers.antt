use Rattle.undo_apply.proofs.taking_back.put_back.Goals as goal

pub returns-in-Key-clause-puts : goal.returns-in-Key-clause-puts
returns-in-Key-clause-puts g c = λ chains beside place is. c.look_at_key.ensures chains beside place c.args.actor is

pub returns-in-Walk-clause-puts : goal.returns-in-Walk-clause-puts
returns-in-Walk-clause-puts g c = λ chains beside place is. c.walk.ensures.puts chains beside place c.args.actor is

pub returns-in-Key-clause-awaits : goal.returns-in-Key-clause-awaits
returns-in-Key-clause-awaits g c = record { each = λ i by is. is }
