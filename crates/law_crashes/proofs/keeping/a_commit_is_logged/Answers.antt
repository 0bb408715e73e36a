use Rattle.law_crashes.proofs.Durable.{durable_commit}
use Rattle.law_crashes.proofs.keeping.a_commit_is_logged.Goals as goal

pub returns : goal.returns
returns c =
    λ root now past log new due later s records d some spells run flushed next reaches rise append. durable_commit root now past log due d s records new
    later some spells run flushed next reaches rise append
