use Rattle.log_format.proofs.reader.Reader.step.Goals as goal

pub returns-clause-nearer : goal.returns-clause-nearer
returns-clause-nearer g c = c.take_group.ensures.nearer

pub returns-clause-gives : goal.returns-clause-gives
returns-clause-gives g c = λ first area given is. c.take_group.ensures.gives first area given (g.D.Disk.past c.args.disk.now) is

pub returns-clause-is : goal.returns-clause-is
returns-clause-is g c = c.take_group.ensures.is
