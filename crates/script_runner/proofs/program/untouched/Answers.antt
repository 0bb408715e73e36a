use Rattle.script_runner.proofs.Untouched.{leaves_untouched}
use Rattle.script_runner.proofs.program.untouched.Goals as goal

pub returns-clause-left : goal.returns-clause-left
returns-clause-left g c = leaves_untouched (g.D.Disk.past c.args.disk) (g.met.D.Disk.seen_may_be_left c.args.disk)
