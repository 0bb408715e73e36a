use Rattle.giving_up.proofs.Closing.{committed}
use Rattle.giving_up.proofs.ending.commit.Goals as goal

pub returns-clause-steps : goal.returns-clause-steps
returns-clause-steps g c =
    committed c.args.session c.args.lists.now c.commit.new.self c.args.kept c.args.given c.requires.idle c.requires.closing c.commit.ensures
