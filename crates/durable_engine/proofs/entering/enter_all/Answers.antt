use Rattle.std.proofs.Common.{◌≡◌, ◌∙◌, ◌+◌, ◌∷◌, ◌++◌, List, take, drop, reverse, sym, ap, subst, arith}
use Rattle.std.proofs.lemmas.List.{take_all}
use Rattle.inno_model.specs.declared.event.Event.{Event}
use Rattle.commit_log.specs.View.{IsLogging}
use Rattle.commit_log.specs.DraftsView.{draft_of}
use Rattle.durable_engine.specs.Entering.{MayEnter}
use Rattle.durable_engine.proofs.Taking.{dropped, may_after, reverse_more}
use Rattle.durable_engine.proofs.entering.enter_all.Goals as goal

pub loop-entry-preserved : goal.loop-entry-preserved
loop-entry-preserved c =
    let i = c.loop-entry.entry-index in
    let entries = c.args.entries.now in
    let e = c.entry-item.result in
    let s = c.args.session in
    let here : drop i entries ≡ e ∷ drop (i + 1) entries =
    dropped i entries e c.loop-entry-test.true ∙ ap (λ (x : Event). x ∷ drop (i + 1) entries) (sym c.entry-item.is) in
    let may = subst (MayEnter s (draft_of s c.loop-entry.log.drafts).ready) here c.loop-entry.invariant.may in
    let more : reverse (take (i + 1) entries) ≡ e ∷ reverse (take i entries) =
    reverse_more i entries e c.loop-entry-test.true ∙ ap (λ (x : Event). x ∷ reverse (take i entries)) (sym c.entry-item.is) in
    record {
      joined = c.enter.ensures.joined ∙ c.loop-entry.invariant.joined;
      may =
          may_after s (draft_of s c.loop-entry.log.drafts).ready (draft_of s c.enter.new.self.drafts).ready e (drop (i + 1) entries)
          c.enter.ensures.room_stays may;
      kept = λ root now past is.
          subst (λ (es : List Event). IsLogging root now (es ++ past) c.enter.new.self) (sym more)
          (c.enter.ensures.kept root now (reverse (take i entries) ++ past) (c.loop-entry.invariant.kept root now past is));
    }

pub returns-clause-kept : goal.returns-clause-kept
returns-clause-kept c =
    λ root now past is.
    subst (λ (es : List Event). IsLogging root now (reverse es ++ past) c.loop-entry.log)
    (take_all c.loop-entry.entry-index c.args.entries.now (omega (arith, c.loop-entry-test.false))) (c.loop-entry.invariant.kept root now past is)
