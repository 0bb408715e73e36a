use Rattle.law_crashes.proofs.Durable.{durable_ack}
use Rattle.law_crashes.proofs.keeping.an_acknowledgement_waits_for_the_log.Goals as goal

pub returns : goal.returns
returns c = λ root now past log due s moment d is_now reached. durable_ack root now past log due d s moment is_now reached
