use Rattle.desks.specs.declared.desk.Doing.TheVariants.{Nothing}
use Rattle.desks.proofs.Showing.{given_at}
use Rattle.desks.proofs.desk.take_doing.Goals as goal

pub returns-clause-is : goal.returns-clause-is
returns-clause-is c =
    given_at c.args.session Nothing c.args.desks.now.items c.requires c.index_mut.ensures.value c.replace.ensures.after
