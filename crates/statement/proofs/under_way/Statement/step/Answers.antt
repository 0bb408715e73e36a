use Rattle.std.proofs.Common.{sym, ap, subst, ◌∙◌}
use Rattle.statement.specs.Running.{IsRunning, owes_ack, wants_room}
use Rattle.statement.proofs.Quiet.{reading_tells_none, writing_tells_none}
use Rattle.statement.proofs.under_way.Statement.step.Goals as goal

pub returns-in-Read-clause-quiet : goal.returns-in-Read-clause-quiet
returns-in-Read-clause-quiet g c = λ wants-none.
    reading_tells_none c.args.session c.args.lists.now c.step.new.lists c.in-Read.statement c.step.new.self c.step.result
    (subst (IsRunning c.args.lists.now c.args.session) c.in-Read.is c.requires.running) (sym (ap owes_ack c.in-Read.is) ∙ c.requires.acked)
    c.step.ensures.steps c.step.ensures.nears

pub returns-in-Write-clause-quiet : goal.returns-in-Write-clause-quiet
returns-in-Write-clause-quiet g c = λ wants-none.
    writing_tells_none c.args.session c.args.lists.now c.step-in-Write.new.lists c.in-Write.statement c.step-in-Write.new.self c.step-in-Write.result
    (sym (ap wants_room c.in-Write.is) ∙ wants-none) (subst (IsRunning c.args.lists.now c.args.session) c.in-Write.is c.requires.running)
    (sym (ap owes_ack c.in-Write.is) ∙ c.requires.acked) c.step-in-Write.ensures.steps c.step-in-Write.ensures.nears
