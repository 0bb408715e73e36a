use Rattle.script_runner.proofs.Loading.{made_up}
use Rattle.script_runner.proofs.program.make_up.Goals as goal

pub returns-clause-kind : goal.returns-clause-kind
returns-clause-kind g c =
    rw c.untouched.ensures.fault
    (made_up c.args.asked.sessions c.args.asked.transfers c.print_generated-fault.result c.print_generated-fault.ensures.causes)
