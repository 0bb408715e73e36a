use Rattle.giving_up.proofs.Closing.{rolled}
use Rattle.giving_up.proofs.ending.roll_back.Goals as goal

pub returns-clause-steps : goal.returns-clause-steps
returns-clause-steps g c =
    rolled c.args.session c.args.lists.now c.roll_back.new.self c.args.kept c.args.given c.requires.idle c.requires.closing c.roll_back.ensures
