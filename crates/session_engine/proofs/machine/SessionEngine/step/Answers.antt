use Rattle.std.proofs.Common.{length, ◌≡◌, ◌<◌, ◌∙◌, subst, sym, ap, true, false}
use Rattle.std.proofs.lemmas.Bool.{false≢true}
use Rattle.session_engine.specs.Seats.{seat_at, seat_since, is_working, is_busy, owes}
use Rattle.session_engine.proofs.Seating.{leaving_is, at_work, unread, refused_keeps, refused_does, refused_nears}
use Rattle.session_engine.proofs.Seating.{stepped_keeps, stepped_does, stepped_nears, stepped_lacks, stepped_quiet, stepped_since, stepped_answers}
use Rattle.session_engine.proofs.Seating.{signals_keep, signals_do, signals_near, signals_patient, signals_wait, out_keeps}
use Rattle.session_engine.proofs.Seating.{refused_lacks, refused_since, signalling_lacks, signals_since}
use Rattle.session_engine.proofs.machine.SessionEngine.step.Goals as goal

pub step-requires-clause-at_work : goal.step-requires-clause-at_work
step-requires-clause-at_work g c =
    let engine = c.self.inside in
    let joined : c.args.s < length engine.lists.names = subst (λ st. c.args.s < length st.lists.names) (sym c.self.view_is) c.requires.joined in
    at_work engine.lists engine.lists engine.seats c.args.s c.self.invariant joined (sym c.is_busy.ensures ∙ c.if-is_busy.true)
    (subst (λ st. owes (seat_at st.seats c.args.s) ≡ false) (sym c.self.view_is) c.requires.acked)

pub invariant_of-self : goal.invariant_of-self
invariant_of-self g c =
    let engine = c.self.inside in
    let joined : c.args.s < length engine.lists.names = subst (λ st. c.args.s < length st.lists.names) (sym c.self.view_is) c.requires.joined in
    let seat = c.step.ensures.0 in
    rw (c.step.ensures.1) (stepped_keeps engine.lists c.step.new.lists engine.seats c.args.s c.self.invariant joined seat c.step.result c.step.ensures.2)

pub returns-then-is_busy-clause-steps : goal.returns-then-is_busy-clause-steps
returns-then-is_busy-clause-steps g c =
    let engine = c.self.inside in
    let joined : c.args.s < length engine.lists.names = subst (λ st. c.args.s < length st.lists.names) (sym c.self.view_is) c.requires.joined in
    let seat = c.step.ensures.0 in
    rw (← c.self.view_is, c.step.ensures.1)
    (stepped_does engine.lists c.step.new.lists engine.seats c.args.s c.self.invariant joined seat c.step.result c.step.ensures.2)

pub returns-then-is_busy-clause-nears : goal.returns-then-is_busy-clause-nears
returns-then-is_busy-clause-nears g c =
    let engine = c.self.inside in
    let joined : c.args.s < length engine.lists.names = subst (λ st. c.args.s < length st.lists.names) (sym c.self.view_is) c.requires.joined in
    let seat = c.step.ensures.0 in
    rw (← c.self.view_is, c.step.ensures.1)
    (stepped_nears engine.lists c.step.new.lists engine.seats c.args.s c.self.invariant joined seat c.step.result c.step.ensures.2)

pub returns-then-is_busy-clause-lacks : goal.returns-then-is_busy-clause-lacks
returns-then-is_busy-clause-lacks g c =
    let engine = c.self.inside in
    let joined : c.args.s < length engine.lists.names = subst (λ st. c.args.s < length st.lists.names) (sym c.self.view_is) c.requires.joined in
    let seat = c.step.ensures.0 in
    rw (← c.self.view_is, c.step.ensures.1)
    (stepped_lacks engine.lists c.step.new.lists engine.seats c.args.s c.self.invariant joined seat c.step.result c.step.ensures.2)

pub returns-then-is_busy-clause-quiet : goal.returns-then-is_busy-clause-quiet
returns-then-is_busy-clause-quiet g c =
    let engine = c.self.inside in
    let joined : c.args.s < length engine.lists.names = subst (λ st. c.args.s < length st.lists.names) (sym c.self.view_is) c.requires.joined in
    let seat = c.step.ensures.0 in
    rw (← c.self.view_is) (stepped_quiet engine.lists c.step.new.lists engine.seats c.args.s c.self.invariant joined seat c.step.result c.step.ensures.2)

pub returns-then-is_busy-clause-waits : goal.returns-then-is_busy-clause-waits
returns-then-is_busy-clause-waits g c =
    let engine = c.self.inside in
    let joined : c.args.s < length engine.lists.names = subst (λ st. c.args.s < length st.lists.names) (sym c.self.view_is) c.requires.joined in
    let seat = c.step.ensures.0 in
    λ waits. absurd (stepped_answers engine.lists c.step.new.lists engine.seats c.args.s c.self.invariant joined seat c.step.result c.step.ensures.2 waits)

pub returns-then-is_busy-clause-waited : goal.returns-then-is_busy-clause-waited
returns-then-is_busy-clause-waited g c =
    let busy = c.step.ensures.2.was in
    λ item waited at is. absurd (let both = sym busy ∙ (ap (λ st. seat_at st.seats c.args.s) c.self.view_is ∙ at) in cc)

pub invariant_of-self-in_default : goal.invariant_of-self-in_default
invariant_of-self-in_default g c =
    let engine = c.self.inside in
    let joined : c.args.s < length engine.lists.names = subst (λ st. c.args.s < length st.lists.names) (sym c.self.view_is) c.requires.joined in
    let works : is_working (seat_at engine.seats c.args.s) ≡ true =
    subst (λ st. is_working (seat_at st.seats c.args.s) ≡ true) (sym c.self.view_is) c.requires.working in
    let leaving = leaving_is (seat_at engine.seats c.args.s) works (λ statement is. false≢true (sym c.if-is_busy.false ∙ (c.is_busy.ensures ∙ ap is_busy is)))
    (λ at is. c.in_default.not-Refused at (c.replace.ensures.was ∙ is)) (λ item is. c.in_default.not-Signalling item (c.replace.ensures.was ∙ is)) in
    let out = c.go_out-seat in
    rw (c.replace-in_default.ensures.is, c.replace.ensures.is)
    (out_keeps engine.lists out.new.lists engine.seats c.args.s c.self.invariant joined leaving out.result.0 out.result.1 out.ensures.goes)

pub invariant_of-self-in-Signalling : goal.invariant_of-self-in-Signalling
invariant_of-self-in-Signalling g c =
    let engine = c.self.inside in
    let joined : c.args.s < length engine.lists.names = subst (λ st. c.args.s < length st.lists.names) (sym c.self.view_is) c.requires.joined in
    let does = c.signal-seat in
    rw (c.replace-in-Signalling.ensures.is, c.replace.ensures.is)
    (signals_keep engine.lists does.new.lists engine.seats c.args.s c.self.invariant joined c.args.now c.in-Signalling.item
    (sym c.replace.ensures.was ∙ c.in-Signalling.is) does.result.0 does.result.1 does.ensures)

pub returns-in-Signalling-clause-steps : goal.returns-in-Signalling-clause-steps
returns-in-Signalling-clause-steps g c =
    let engine = c.self.inside in
    let joined : c.args.s < length engine.lists.names = subst (λ st. c.args.s < length st.lists.names) (sym c.self.view_is) c.requires.joined in
    let does = c.signal-seat in
    rw (← c.self.view_is, c.replace-in-Signalling.ensures.is, c.replace.ensures.is)
    (signals_do engine.lists does.new.lists engine.seats c.args.s c.self.invariant joined c.args.now c.in-Signalling.item
    (sym c.replace.ensures.was ∙ c.in-Signalling.is) does.result.0 does.result.1 does.ensures)

pub returns-in-Signalling-clause-nears : goal.returns-in-Signalling-clause-nears
returns-in-Signalling-clause-nears g c =
    let engine = c.self.inside in
    let joined : c.args.s < length engine.lists.names = subst (λ st. c.args.s < length st.lists.names) (sym c.self.view_is) c.requires.joined in
    let does = c.signal-seat in
    rw (← c.self.view_is, c.replace-in-Signalling.ensures.is, c.replace.ensures.is)
    (signals_near engine.lists does.new.lists engine.seats c.args.s c.self.invariant joined c.args.now c.in-Signalling.item
    (sym c.replace.ensures.was ∙ c.in-Signalling.is) does.result.0 does.result.1 does.ensures)

pub returns-in-Signalling-clause-waits : goal.returns-in-Signalling-clause-waits
returns-in-Signalling-clause-waits g c =
    let engine = c.self.inside in
    let joined : c.args.s < length engine.lists.names = subst (λ st. c.args.s < length st.lists.names) (sym c.self.view_is) c.requires.joined in
    let does = c.signal-seat in
    rw (← c.self.view_is)
    (signals_patient engine.lists does.new.lists engine.seats c.args.s c.self.invariant joined c.args.now c.in-Signalling.item
    (sym c.replace.ensures.was ∙ c.in-Signalling.is) does.result.0 does.result.1 does.ensures)

pub returns-in-Signalling-clause-waited : goal.returns-in-Signalling-clause-waited
returns-in-Signalling-clause-waited g c =
    let engine = c.self.inside in
    let joined : c.args.s < length engine.lists.names = subst (λ st. c.args.s < length st.lists.names) (sym c.self.view_is) c.requires.joined in
    let does = c.signal-seat in
    rw (← c.self.view_is)
    (signals_wait engine.lists does.new.lists engine.seats c.args.s c.self.invariant joined c.args.now c.in-Signalling.item
    (sym c.replace.ensures.was ∙ c.in-Signalling.is) does.result.0 does.result.1 does.ensures)

pub refuse-seat-requires-clause-unread : goal.refuse-seat-requires-clause-unread
refuse-seat-requires-clause-unread g c =
    let engine = c.self.inside in
    let joined : c.args.s < length engine.lists.names = subst (λ st. c.args.s < length st.lists.names) (sym c.self.view_is) c.requires.joined in
    unread engine.lists engine.lists engine.seats c.args.s c.self.invariant joined c.in-Refused.at (sym c.replace.ensures.was ∙ c.in-Refused.is)

pub invariant_of-self-in-Refused : goal.invariant_of-self-in-Refused
invariant_of-self-in-Refused g c =
    let engine = c.self.inside in
    let joined : c.args.s < length engine.lists.names = subst (λ st. c.args.s < length st.lists.names) (sym c.self.view_is) c.requires.joined in
    let does = c.refuse-seat in
    rw (c.replace-in-Refused.ensures.is, c.replace.ensures.is)
    (refused_keeps engine.lists does.new.lists engine.seats c.args.s c.self.invariant joined c.in-Refused.at
    (sym c.replace.ensures.was ∙ c.in-Refused.is) does.result.0 does.result.1 does.ensures)

pub returns-in-Refused-clause-steps : goal.returns-in-Refused-clause-steps
returns-in-Refused-clause-steps g c =
    let engine = c.self.inside in
    let joined : c.args.s < length engine.lists.names = subst (λ st. c.args.s < length st.lists.names) (sym c.self.view_is) c.requires.joined in
    let does = c.refuse-seat in
    rw (← c.self.view_is, c.replace-in-Refused.ensures.is, c.replace.ensures.is)
    (refused_does engine.lists does.new.lists engine.seats c.args.s c.self.invariant joined c.in-Refused.at
    (sym c.replace.ensures.was ∙ c.in-Refused.is) does.result.0 does.result.1 does.ensures)

pub returns-in-Refused-clause-nears : goal.returns-in-Refused-clause-nears
returns-in-Refused-clause-nears g c =
    let engine = c.self.inside in
    let joined : c.args.s < length engine.lists.names = subst (λ st. c.args.s < length st.lists.names) (sym c.self.view_is) c.requires.joined in
    let does = c.refuse-seat in
    rw (← c.self.view_is, c.replace-in-Refused.ensures.is, c.replace.ensures.is)
    (refused_nears engine.lists does.new.lists engine.seats c.args.s c.self.invariant joined c.in-Refused.at
    (sym c.replace.ensures.was ∙ c.in-Refused.is) does.result.0 does.result.1 does.ensures)

pub returns-in-Refused-clause-waited : goal.returns-in-Refused-clause-waited
returns-in-Refused-clause-waited g c =
    let refused = sym c.replace.ensures.was ∙ c.in-Refused.is in
    λ item waited at is. absurd (let both = sym refused ∙ (ap (λ st. seat_at st.seats c.args.s) c.self.view_is ∙ at) in cc)

pub returns-in-Signalling-clause-lacks : goal.returns-in-Signalling-clause-lacks
returns-in-Signalling-clause-lacks g c =
    let does = c.signal-seat in
    signalling_lacks c.args.s c.args.now c.in-Signalling.item c.self.inside.lists does.new.lists does.result.0 does.result.1 does.ensures _ _

pub returns-in-Refused-clause-lacks : goal.returns-in-Refused-clause-lacks
returns-in-Refused-clause-lacks g c =
    let engine = c.self.inside in
    let joined : c.args.s < length engine.lists.names = subst (λ st. c.args.s < length st.lists.names) (sym c.self.view_is) c.requires.joined in
    let does = c.refuse-seat in
    rw (← c.self.view_is, c.replace-in-Refused.ensures.is, c.replace.ensures.is)
    (refused_lacks engine.lists does.new.lists engine.seats c.args.s c.self.invariant joined c.in-Refused.at
    (sym c.replace.ensures.was ∙ c.in-Refused.is) does.result.0 does.result.1 does.ensures)

pub returns-then-is_busy-clause-since : goal.returns-then-is_busy-clause-since
returns-then-is_busy-clause-since g c =
    let engine = c.self.inside in
    let joined : c.args.s < length engine.lists.names = subst (λ st. c.args.s < length st.lists.names) (sym c.self.view_is) c.requires.joined in
    let seat = c.step.ensures.0 in
    rw (← c.self.view_is, c.step.ensures.1)
    (stepped_since engine.lists c.step.new.lists engine.seats c.args.s c.self.invariant joined seat c.step.result c.step.ensures.2 c.args.now
    (seat_since (seat_at engine.seats c.args.s)))

pub returns-in-Signalling-clause-since : goal.returns-in-Signalling-clause-since
returns-in-Signalling-clause-since g c =
    let engine = c.self.inside in
    let joined : c.args.s < length engine.lists.names = subst (λ st. c.args.s < length st.lists.names) (sym c.self.view_is) c.requires.joined in
    let does = c.signal-seat in
    rw (← c.self.view_is, c.replace-in-Signalling.ensures.is, c.replace.ensures.is)
    (signals_since engine.lists does.new.lists engine.seats c.args.s c.self.invariant joined c.args.now c.in-Signalling.item
    (sym c.replace.ensures.was ∙ c.in-Signalling.is) does.result.0 does.result.1 does.ensures)

pub returns-in-Refused-clause-since : goal.returns-in-Refused-clause-since
returns-in-Refused-clause-since g c =
    let engine = c.self.inside in
    let joined : c.args.s < length engine.lists.names = subst (λ st. c.args.s < length st.lists.names) (sym c.self.view_is) c.requires.joined in
    let does = c.refuse-seat in
    rw (← c.self.view_is, c.replace-in-Refused.ensures.is, c.replace.ensures.is)
    (refused_since engine.lists does.new.lists engine.seats c.args.s c.self.invariant joined c.in-Refused.at
    (sym c.replace.ensures.was ∙ c.in-Refused.is) does.result.0 does.result.1 does.ensures c.args.now (seat_since (seat_at engine.seats c.args.s)))
