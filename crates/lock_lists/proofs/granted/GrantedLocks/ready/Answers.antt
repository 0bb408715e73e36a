use Rattle.std.proofs.Common.{◌≤◌, ◌+◌, ◌∙◌, sym, ap, subst, length, arith}
use Rattle.lock_lists.specs.Last.{Chained}
use Rattle.lock_lists.specs.Places.{Granted, AreChained, locks_of}
use Rattle.lock_lists.proofs.Locks.{full_of, locks_packed, long_packed}
use Rattle.lock_lists.proofs.granted.GrantedLocks.ready.Goals as goal

pub chain-requires-clause-full : goal.chain-requires-clause-full
chain-requires-clause-full c = full_of c.deref.result.now (locks_of c.self.inside.places.items) (c.deref.ensures.value ∙ c.pack.ensures.items)

pub invariant_of-self : goal.invariant_of-self
invariant_of-self c =
    let old = c.self.inside.places.items in
    let kept = c.self.invariant in
    let items = c.pack.ensures.items in
    record {
      chained = subst (λ ps. AreChained ps c.chain.new.spots c.chain.new.txns) c.deref.ensures.value c.chain.ensures.chained;
      counted = kept.counted ∙ sym (ap length (ap locks_of items ∙ locks_packed (locks_of old)));
      within = omega (arith, c.pack.ensures.fewer, kept.within);
      spots_room = c.chain.ensures.spots_stay ∙ ap (λ (t : Chained). t.room) c.clear.ensures ∙ kept.spots_room;
      txns_room = c.chain.ensures.txns_stay ∙ ap (λ (t : Chained). t.room) c.clear-then-self-len.ensures ∙ kept.txns_room;
      holds = omega (arith, c.pack.ensures.capacity, kept.holds);
      fits = kept.fits;
    }

pub returns-then-self-len-clause-free : goal.returns-then-self-len-clause-free
returns-then-self-len-clause-free c =
    let old = c.self.inside.places.items in
    let more : length (locks_of old) + c.args.more ≤ c.self.inside.room =
    subst (λ (g : Granted). length (locks_of g.places) + c.args.more ≤ g.room) (sym c.self.view_is) c.requires in
    omega (arith, ap length c.pack.ensures.items, long_packed (locks_of old), more)

pub returns-then-self-len-clause-locks : goal.returns-then-self-len-clause-locks
returns-then-self-len-clause-locks c =
    ap locks_of c.pack.ensures.items ∙ locks_packed (locks_of c.self.inside.places.items) ∙ ap (λ (g : Granted). locks_of g.places) c.self.view_is
