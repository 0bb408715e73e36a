use Rattle.giving_up.specs.declared.leaving.Leaving.TheVariants.{Ended}
use Rattle.giving_up.specs.Leaving.{IsLeaving}
use Rattle.giving_up.proofs.Moving.{ended}
use Rattle.giving_up.proofs.Closing.{may_reply, not_done}
use Rattle.giving_up.proofs.ending.end.Goals as goal

pub end-requires-clause-may : goal.end-requires-clause-may
end-requires-clause-may g c = may_reply c.args.session c.args.lists.now.past c.args.kept c.args.given c.requires.may c.requires.acked c.requires.within

pub end-requires-clause-not_done : goal.end-requires-clause-not_done
end-requires-clause-not_done g c = not_done c.args.session c.args.lists.now.past c.args.kept c.args.given c.requires.may

pub returns-clause-steps : goal.returns-clause-steps
returns-clause-steps g c =
    ended IsLeaving c.args.session c.args.lists.now c.end.new.self c.args.kept c.args.given Ended c.requires.may.same
    c.requires.may.rows_alone c.requires.idle c.end.ensures
