use Rattle.desks.proofs.Showing.{given_at}
use Rattle.desks.proofs.desk.give_doing.Goals as goal

pub returns : goal.returns
returns c =
    given_at c.args.session c.args.doing c.args.desks.now.items c.requires c.index_mut.ensures.value c.replace.ensures.after
