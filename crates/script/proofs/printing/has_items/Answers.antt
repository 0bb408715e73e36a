use Rattle.std.proofs.Common.{arith}
use Rattle.std.proofs.lemmas.Grind.{common_steps}
use Rattle.script.proofs.Started.{has_started}
use Rattle.script.proofs.printing.has_items.Goals as goal

pub returns-in-loop-event : goal.returns-in-loop-event
returns-in-loop-event c =
    has_started c.args.s c.in-Started.t c.in-Started.j c.loop-event.event-index c.in-Started.item c.args.events.now c.event-item.result c.loop-event-test.true c.event-item.is c.in-Started.is c.if-t-s.true

pub loop-event-preserved : goal.loop-event-preserved
loop-event-preserved c = grind (arith, common_steps) steps 2000000

pub returns : goal.returns
returns c = grind (arith, common_steps) steps 2000000
