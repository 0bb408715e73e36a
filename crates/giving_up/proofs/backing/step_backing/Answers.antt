use Rattle.std.proofs.Common.{◌≤◌, length, arith}
use Rattle.inno_model.specs.Past.{own}
use Rattle.giving_up.proofs.TakingBack.{all_back, rests}
use Rattle.giving_up.proofs.backing.step_backing.Goals as goal

pub take_back-requires-clause-more : goal.take_back-requires-clause-more
take_back-requires-clause-more g c = omega (arith, c.change_count.ensures)

pub leave-requires-clause-undone : goal.leave-requires-clause-undone
leave-requires-clause-undone g c =
    let few : length (own c.args.session c.args.lists.now.past) ≤ c.args.work.before = omega (arith, c.change_count.ensures) in
    all_back c.args.lists.now.past c.args.lists.now.writer c.args.session c.args.work c.requires.leaving.0 few

pub leave-requires-clause-idle : goal.leave-requires-clause-idle
leave-requires-clause-idle g c =
    let few : length (own c.args.session c.args.lists.now.past) ≤ c.args.work.before = omega (arith, c.change_count.ensures) in
    rests c.args.work.before c.args.session c.args.lists.now.past _ few c.requires.leaving.1
