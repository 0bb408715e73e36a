use Rattle.std.proofs.Common.{◌≡◌, ◌∙◌, ◌+◌, ◌∷◌, ◌<◌, [], true, length, refl, sym, ap, subst, arith}
use Rattle.std.proofs.lemmas.Bool.Decides.{nat_tests}
use Rattle.std.proofs.lemmas.List.{length-reverse}
use Rattle.inno_model.specs.declared.event.Event.TheVariants.{Started}
use Rattle.inno_model.specs.Past.{is_of, started}
use Rattle.commit_log.specs.View.{IsLogging}
use Rattle.commit_log.specs.DraftsView.{draft_of}
use Rattle.durable_engine.proofs.Adding.{enters_one}
use Rattle.durable_engine.proofs.Seating.{started_seats}
use Rattle.durable_engine.proofs.logged.LoggedSessions.start.Goals as goal

pub take_over-requires-clause-may : goal.take_over-requires-clause-may
take_over-requires-clause-may g c =
    let s = c.args.s in
    let old = c.self.inside.sessions.lists.past in
    let e = Started s (started s old + 1) c.args.item.now in
    let mine : is_of s e ≡ true = grind (arith, nat_tests) in
    let events = c.events-told.result.now in
    let told : length events ≡ length old = sym (length-reverse events) ∙ (ap length c.events-told.ensures ∙ ap length c.history.ensures.past) in
    λ added past is long.
    enters_one s (draft_of s c.self.inside.log.drafts).ready e old c.start.new.self.lists.past added past mine refl refl
    c.in_ok-start.ensures.ok.lists_are.past_is (sym c.history-2.ensures.past ∙ is) (long ∙ told)

pub invariant_of-self-2 : goal.invariant_of-self-2
invariant_of-self-2 g c =
    let i = c.self.inside in
    let s = c.args.s in
    let joined : s < length i.sessions.lists.names = subst (λ st. s < length st.sessions.lists.names) (sym c.self.view_is) c.requires.joined in
    started_seats i.sessions c.start.new.self i.seats.items i.log c.take_over.new.log s (started s i.sessions.lists.past + 1) c.args.item.now
    c.self.invariant joined c.in_ok-start.ensures.ok c.take_over.ensures.joined c.index.result.now c.index.ensures c.phase.result c.phase.ensures

pub returns-clause-kept : goal.returns-clause-kept
returns-clause-kept g c =
    let s = c.args.s in
    let old = c.self.inside.sessions.lists.past in
    let events = c.events-told.result.now in
    let told : length events ≡ length old = sym (length-reverse events) ∙ (ap length c.events-told.ensures ∙ ap length c.history.ensures.past) in
    λ root now is.
    subst (λ h. IsLogging root now h c.take_over.new.log) c.history-2.ensures.past
    (c.take_over.ensures.kept root now (Started s (started s old + 1) c.args.item.now ∷ []) old
    (c.history-2.ensures.past ∙ c.in_ok-start.ensures.ok.lists_are.past_is) (sym told)
    (subst (λ st. IsLogging root now st.sessions.lists.past st.log) (sym c.self.view_is) is))
