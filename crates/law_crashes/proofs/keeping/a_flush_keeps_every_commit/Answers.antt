use Rattle.law_crashes.proofs.Durable.{durable_flush}
use Rattle.law_crashes.proofs.keeping.a_flush_keeps_every_commit.Goals as goal

pub returns : goal.returns
returns c = λ root now next past log new due d run same later stands crash. durable_flush root now past log due d next new run same later stands crash
