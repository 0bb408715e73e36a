use Rattle.std.proofs.Common.{◌≡◌, ◌∙◌, sym}
use Rattle.script.specs.Directives as spelled
use Rattle.script.specs.declared.directive.Naming.TheVariants as naming
use Rattle.script.proofs.Chosen.{stands, fails}
use Rattle.script.proofs.directive.directive_at.Goals as goal

pub returns-in-Some-clause-value : goal.returns-in-Some-clause-value
returns-in-Some-clause-value c =
    let so : spelled.directive_at c.args.bytes.now ≡ spelled.named_at naming.Session c.in-Some.rest.now =
    stands _ _ _ (spelled.named_at naming.Session) _ c.in-Some.ensures.value in
    rw so c.named_at.ensures.value

pub returns-in-Some-behind-clause-value : goal.returns-in-Some-behind-clause-value
returns-in-Some-behind-clause-value c =
    let so : spelled.directive_at c.args.bytes.now ≡ spelled.tick_at c.in-Some-behind.rest.now =
    fails _ _ (spelled.named_at naming.Session) _ c.in_default.ensures.value
    ∙ stands _ _ _ spelled.tick_at (spelled.signal_at c.args.bytes.now) c.in-Some-behind.ensures.value in
    c.tick_at.ensures.value ∙ sym so

pub returns-clause-value : goal.returns-clause-value
returns-clause-value c =
    let so : spelled.directive_at c.args.bytes.now ≡ spelled.signal_at c.args.bytes.now =
    fails _ _ (spelled.named_at naming.Session) _ c.in_default.ensures.value
    ∙ fails _ _ spelled.tick_at (spelled.signal_at c.args.bytes.now) c.in_default-behind.ensures.value in
    rw so c.signal_at.ensures.value
