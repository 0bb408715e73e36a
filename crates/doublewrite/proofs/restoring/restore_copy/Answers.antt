use Rattle.doublewrite.proofs.Repairs.{nothing_there}
use Rattle.doublewrite.proofs.restoring.restore_copy.Goals as goal

pub returns-in-None-clause-stands : goal.returns-in-None-clause-stands
returns-in-None-clause-stands g c = λ before known. nothing_there before c.args.double.now c.args.slot c.requires c.in-None.ensures (g.D.Disk.past c.args.disk.now) known
