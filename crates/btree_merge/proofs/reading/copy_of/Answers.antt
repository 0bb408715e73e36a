use Rattle.btree.proofs.Steps.{asked_one}
use Rattle.btree_merge.proofs.reading.copy_of.Goals as goal

pub returns-clause-looks : goal.returns-clause-looks
returns-clause-looks g c = asked_one c.args.page (g.M.Mtr.state c.args.m.now) (g.M.Mtr.state c.asked.new.m) c.asked.result c.asked.ensures.asks
