use Rattle.std.proofs.Common.{◌∙◌, drop, reverse, sym, subst}
use Rattle.std.proofs.lemmas.List.{reverse-reverse}
use Rattle.commit_log.specs.View.{IsLogging}
use Rattle.commit_log.specs.DraftsView.{draft_of}
use Rattle.durable_engine.specs.Entering.{MayEnter}
use Rattle.durable_engine.proofs.Adding.{cut_at, rest_is, rest_before}
use Rattle.durable_engine.proofs.logged.take_over.Goals as goal

pub enter_all-requires-clause-may : goal.enter_all-requires-clause-may
enter_all-requires-clause-may c =
    let events = c.events.result.now in
    let told = c.args.told in
    let cut = cut_at told events c.args.history.now.past c.events.ensures c.requires.within in
    subst (MayEnter c.args.session (draft_of c.args.session c.args.log.now.drafts).ready) (reverse-reverse (drop told events) ∙ sym (rest_is told events))
    (c.requires.may (reverse (drop told events)) _ cut.whole cut.long)

pub returns-clause-kept : goal.returns-clause-kept
returns-clause-kept c =
    let events = c.events.result.now in
    let told = c.args.told in
    let cut = cut_at told events c.args.history.now.past c.events.ensures c.requires.within in
    λ root now added past is long being.
    subst (λ h. IsLogging root now h c.enter_all.new.log) (rest_before told events c.args.history.now.past cut added past is long)
    (c.enter_all.ensures.kept root now past being)
