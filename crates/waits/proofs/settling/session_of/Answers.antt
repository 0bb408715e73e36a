use Rattle.std.proofs.Common.{inl, inr, arith, sym, ap, ◌∙◌}
use Rattle.waits.proofs.Found.{stands_open, open_stands, open_within, session_there, at_or_before, same_number, other_number}
use Rattle.waits.proofs.settling.session_of.Goals as goal

pub returns-then-eq : goal.returns-then-eq
returns-then-eq g c =
    let state = g.W.World.state c.args.world.now in
    let there = session_there state c.loop-session.session (omega (arith, c.requires.sessions, c.loop-session-test.true)) in
    stands_open state c.loop-session.session c.args.txn there.0 there.1
    (sym (ap (λ r. r.txn) (c.session.ensures there.0 there.1)) ∙ same_number c.session.result.txn c.args.txn (sym c.eq.ensures ∙ c.if-eq.true))

pub loop-session-preserved : goal.loop-session-preserved
loop-session-preserved g c = λ k below open_at.
    let state = g.W.World.state c.args.world.now in
    let s = c.loop-session.session in
    elim (at_or_before k s below) [
      | inl before ↦ c.loop-session.invariant k before open_at
      | inr is ↦
          let there = session_there state s (omega (arith, c.requires.sessions, c.loop-session-test.true)) in
          other_number c.session.result.txn c.args.txn (sym c.eq.ensures ∙ c.if-eq.false)
          (ap (λ r. r.txn) (c.session.ensures there.0 there.1) ∙ open_stands state s c.args.txn there.0 there.1 (rw is at open_at))
    ]

pub unreachable-requires : goal.unreachable-requires
unreachable-requires g c =
    let state = g.W.World.state c.args.world.now in
    c.loop-session.invariant c.requires.owned.session
    (omega
    (arith, open_within state c.requires.owned.session c.args.txn c.requires.owned.open_at, c.requires.sessions, c.loop-session-test.false))
    c.requires.owned.open_at
