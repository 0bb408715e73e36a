use Rattle.std.proofs.Common.{◌-◌, ap, refl, ◌∙◌, inl}
use Rattle.write_statement.proofs.Committing.{count_is, may_commit, closing_then, may_end, acks_none}
use Rattle.write_statement.proofs.changing.finish.Goals as goal

pub commit-leaving-requires-clause-may : goal.commit-leaving-requires-clause-may
commit-leaving-requires-clause-may g c =
    may_commit c.args.lists.now.past c.args.lists.now.writer c.args.session c.args.alone c.args.before _ c.requires.made refl c.if-alone.true

pub commit-leaving-requires-clause-closing : goal.commit-leaving-requires-clause-closing
commit-leaving-requires-clause-closing g c =
    closing_then c.args.lists.now.past c.args.lists.now.writer c.args.session c.args.alone c.args.before _ c.requires.made
    (ap (λ n. n - c.args.before) c.change_count.ensures ∙ count_is c.args.lists.now.past c.args.lists.now.writer c.args.session c.args.alone c.args.before c.requires.made)
    c.if-alone.true

pub end-leaving-requires-clause-may : goal.end-leaving-requires-clause-may
end-leaving-requires-clause-may g c =
    may_end c.args.lists.now.past c.args.lists.now.writer c.args.session c.args.alone c.args.before _ c.requires.made
    (ap (λ n. n - c.args.before) c.change_count.ensures ∙ count_is c.args.lists.now.past c.args.lists.now.writer c.args.session c.args.alone c.args.before c.requires.made)
    c.if-alone.false

pub end-leaving-requires-clause-acked : goal.end-leaving-requires-clause-acked
end-leaving-requires-clause-acked g c =
    acks_none c.args.lists.now.past c.args.lists.now.writer c.args.session c.args.alone c.args.before _ c.requires.made refl c.if-alone.false

pub end-leaving-requires-clause-within : goal.end-leaving-requires-clause-within
end-leaving-requires-clause-within g c = inl refl
