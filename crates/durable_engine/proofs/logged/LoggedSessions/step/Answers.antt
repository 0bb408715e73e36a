use Rattle.std.proofs.Common.{◌≡◌, ◌⊎◌, ◌∙◌, ◌<◌, true, length, sym, ap, subst, inl, inr}
use Rattle.std.specs.Prelude.{All}
use Rattle.std.proofs.lemmas.List.{length-reverse}
use Rattle.inno_model.specs.Past.{opening}
use Rattle.commit_log.specs.Room.{IsLoggable}
use Rattle.commit_log.specs.View.{IsLogging}
use Rattle.commit_log.specs.DraftsView.{draft_of}
use Rattle.law_logged_histories.proofs.Records.{tables_loggable, have_records}
use Rattle.store_api.specs.declared.answers.Progress.TheVariants.{NoMemory}
use Rattle.session_engine.specs.Seats.{seat_at, since_at, phase_of}
use Rattle.session_engine.specs.Calls.{TellsNone}
use Rattle.durable_engine.specs.Seats.{phase_at}
use Rattle.durable_engine.specs.Calls.{WaitsLong}
use Rattle.durable_engine.proofs.Waiting.{waited_long}
use Rattle.durable_engine.proofs.Adding.{steps_added, opening_stays, enters_added}
use Rattle.durable_engine.proofs.Seating.{stepped_seats, steps_on}
use Rattle.durable_engine.proofs.logged.LoggedSessions.step.Goals as goal

pub give_up-requires-clause-wants : goal.give_up-requires-clause-wants
give_up-requires-clause-wants g c = sym c.wants_room-wanted.ensures ∙ c.has_room.ensures.lacks c.if-not-has_room.true

pub invariant_of-self : goal.invariant_of-self
invariant_of-self g c =
    let s = c.args.s in
    let i = c.self.inside in
    let new = c.give_up.new.self in
    let joined : s < length i.sessions.lists.names = subst (λ st. s < length st.sessions.lists.names) (sym c.self.view_is) c.requires.joined in
    let on = steps_on s NoMemory i.sessions new c.give_up.ensures.steps in
    stepped_seats i.sessions new i.seats.items i.log c.has_room.new.log s c.self.invariant joined
    c.has_room.ensures.joined c.index_mut.result.now c.index_mut.ensures.value c.phase.result c.phase.ensures
    on.names_stay on.others_stay (steps_added s NoMemory i.sessions new c.give_up.ensures.steps)

pub returns-then-not-has_room-clause-kept : goal.returns-then-not-has_room-clause-kept
returns-then-not-has_room-clause-kept g c =
    λ root now is.
    subst (λ past. IsLogging root now past c.has_room.new.log) (sym c.give_up.ensures.steps.1)
    (c.has_room.ensures.kept root now c.self.inside.sessions.lists.past
    (subst (λ st. IsLogging root now st.sessions.lists.past st.log) (sym c.self.view_is) is))

pub take_over-requires-clause-may : goal.take_over-requires-clause-may
take_over-requires-clause-may g c =
    let s = c.args.s in
    let i = c.self.inside in
    let new = c.step-progress.new.self in
    let old = i.sessions.lists.past in
    let added = steps_added s c.step-progress.result i.sessions new c.step-progress.ensures.steps in
    let events = c.events-told.result.now in
    let told : length events ≡ length old = sym (length-reverse events) ∙ (ap length c.events-told.ensures ∙ ap length c.history.ensures.past) in
    let h = c.history-2.ensures in
    let opens : All IsLoggable (opening new.lists.past).schemas =
    subst (λ db. All IsLoggable db.schemas) (sym (opening_stays s old new.lists.past added)) c.self.invariant.tables in
    let tables = tables_loggable new.lists.past h.legal h.sound h.tables.none opens in
    let records = have_records new.lists.past h.sound h.fits h.tables.few tables in
    let room : ((draft_of s c.has_room.new.log.drafts).ready ≡ true) ⊎ TellsNone old new.lists.past =
    elim (c.has_room.ensures.room c.if-not-has_room.false) [
      | inl none ↦ inr (c.step-progress.ensures.quiet (sym c.wants_room-wanted.ensures ∙ none))
      | inr ready ↦ inl ready
    ] in
    λ more past is long.
    enters_added s (draft_of s c.has_room.new.log.drafts).ready old new.lists.past more past added (sym h.past ∙ is) (long ∙ told) records room

pub invariant_of-self-2 : goal.invariant_of-self-2
invariant_of-self-2 g c =
    let s = c.args.s in
    let i = c.self.inside in
    let new = c.step-progress.new.self in
    let joined : s < length i.sessions.lists.names = subst (λ st. s < length st.sessions.lists.names) (sym c.self.view_is) c.requires.joined in
    let on = steps_on s c.step-progress.result i.sessions new c.step-progress.ensures.steps in
    stepped_seats i.sessions new i.seats.items i.log c.take_over.new.log s c.self.invariant joined
    (c.take_over.ensures.joined ∙ c.has_room.ensures.joined) c.index_mut-2.result.now c.index_mut-2.ensures.value c.phase-2.result c.phase-2.ensures
    on.names_stay on.others_stay (steps_added s c.step-progress.result i.sessions new c.step-progress.ensures.steps)

pub returns-clause-kept : goal.returns-clause-kept
returns-clause-kept g c =
    let s = c.args.s in
    let i = c.self.inside in
    let old = i.sessions.lists.past in
    let added = steps_added s c.step-progress.result i.sessions c.step-progress.new.self c.step-progress.ensures.steps in
    let events = c.events-told.result.now in
    let told : length events ≡ length old = sym (length-reverse events) ∙ (ap length c.events-told.ensures ∙ ap length c.history.ensures.past) in
    λ root now is.
    subst (λ h. IsLogging root now h c.take_over.new.log) c.history-2.ensures.past
    (c.take_over.ensures.kept root now added.entries old (c.history-2.ensures.past ∙ added.past_is) (sym told)
    (c.has_room.ensures.kept root now old (subst (λ st. IsLogging root now st.sessions.lists.past st.log) (sym c.self.view_is) is)))

pub returns-then-not-has_room-clause-was : goal.returns-then-not-has_room-clause-was
returns-then-not-has_room-clause-was g c =
    subst (λ st. phase_at st.seats c.args.s ≡ phase_of (seat_at st.sessions.seats c.args.s)) c.self.view_is (c.self.invariant.phases c.args.s)

pub returns-clause-was : goal.returns-clause-was
returns-clause-was g c =
    subst (λ st. phase_at st.seats c.args.s ≡ phase_of (seat_at st.sessions.seats c.args.s)) c.self.view_is (c.self.invariant.phases c.args.s)

pub returns-clause-long : goal.returns-clause-long
returns-clause-long g c =
    subst (λ st. WaitsLong c.args.s c.args.now c.step-progress.result st.sessions.lists.past (since_at c.args.s st.sessions)) c.self.view_is
    (waited_long c.args.s c.args.now c.step-progress.result c.self.inside.sessions c.history.ensures.agree c.step-progress.ensures.waited)

pub returns-then-not-has_room-clause-long : goal.returns-then-not-has_room-clause-long
returns-then-not-has_room-clause-long g c = λ name waited item is. absurd (cc)
