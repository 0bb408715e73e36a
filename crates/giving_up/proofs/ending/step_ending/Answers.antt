use Rattle.std.proofs.Common.{refl, inl}
use Rattle.giving_up.proofs.Closing.{limited}
use Rattle.giving_up.proofs.ending.step_ending.Goals as goal

pub end-requires-clause-may : goal.end-requires-clause-may
end-requires-clause-may g c =
    let many = c.in-Some.ensures.many in
    limited c.args.session c.in-Some.rows c.args.lists.now.past many.0 c.args.kept c.args.given c.requires.leaving.0 c.in-Some.ensures.rows many.1

pub end-requires-clause-within : goal.end-requires-clause-within
end-requires-clause-within g c = inl refl

pub end-requires-in-None-clause-may : goal.end-requires-in-None-clause-may
end-requires-in-None-clause-may g c = c.requires.leaving.0.may
