use Rattle.std.proofs.Common.{refl, subst, inl}
use Rattle.giving_up.specs.Ends.{IsFailed}
use Rattle.giving_up.proofs.Closing.{failed_ends, may_roll_back, failed_closes}
use Rattle.giving_up.proofs.ending.step_failed.Goals as goal

pub roll_back-requires-clause-may : goal.roll_back-requires-clause-may
roll_back-requires-clause-may g c =
    may_roll_back c.args.session c.args.lists.now.past
    (subst (λ alone. IsFailed c.args.session alone c.args.lists.now.past) c.if-alone.true c.requires.leaving.0)

pub roll_back-requires-clause-closing : goal.roll_back-requires-clause-closing
roll_back-requires-clause-closing g c =
    failed_closes c.args.session c.args.lists.now.past
    (subst (λ alone. IsFailed c.args.session alone c.args.lists.now.past) c.if-alone.true c.requires.leaving.0)

pub end-requires-clause-may : goal.end-requires-clause-may
end-requires-clause-may g c =
    (failed_ends c.args.session c.args.lists.now.past (subst (λ alone. IsFailed c.args.session alone c.args.lists.now.past) c.if-alone.false
    c.requires.leaving.0)).0.may

pub end-requires-clause-acked : goal.end-requires-clause-acked
end-requires-clause-acked g c =
    (failed_ends c.args.session c.args.lists.now.past (subst (λ alone. IsFailed c.args.session alone c.args.lists.now.past) c.if-alone.false
    c.requires.leaving.0)).1

pub end-requires-clause-within : goal.end-requires-clause-within
end-requires-clause-within g c = inl refl
