use Rattle.std.proofs.Common.{◌≡◌, ◌≤◌, ◌∙◌, map, sym, ap, subst, length, arith}
use Rattle.std.specs.Prelude.{Some}
use Rattle.lock_lists.specs.Last.{Chained}
use Rattle.lock_lists.specs.Places.{Granted, AreChained, locks_of}
use Rattle.lock_lists.proofs.Locks.{full_of, locks_packed, long_packed}
use Rattle.lock_lists.proofs.granted.GrantedLocks.grow.Goals as goal

pub chain-requires-clause-full : goal.chain-requires-clause-full
chain-requires-clause-full c = full_of c.deref.result.now (locks_of c.reserve.new.self.items) (c.deref.ensures.value ∙ c.pack.ensures.items)

pub invariant_of-self-2 : goal.invariant_of-self-2
invariant_of-self-2 c =
    let old = c.self.inside.places.items in
    let kept = c.self.invariant in
    let items : c.pack.new.places.items ≡ map Some (locks_of old) = c.pack.ensures.items ∙ ap (λ ps. map Some (locks_of ps)) c.reserve.ensures.items in
    let enough : length (locks_of old) ≤ c.args.room = subst (λ (g : Granted). length (locks_of g.places) ≤ c.args.room) (sym c.self.view_is) c.requires.enough in
    record {
      chained = subst (λ ps. AreChained ps c.chain.new.spots c.chain.new.txns) c.deref.ensures.value c.chain.ensures.chained;
      counted = kept.counted ∙ sym (ap length (ap locks_of items ∙ locks_packed (locks_of old)));
      within = omega (arith, ap length items, long_packed (locks_of old), enough);
      spots_room = c.chain.ensures.spots_stay ∙ ap (λ (t : Chained). t.room) c.in_ok-spots.ensures;
      txns_room = c.chain.ensures.txns_stay ∙ ap (λ (t : Chained). t.room) c.in_ok-txns.ensures;
      holds = omega (arith, c.pack.ensures.capacity, c.in_ok-reserve.ensures.ok, c.reserve.ensures.len, c.saturating_sub-more.ensures, c.len.ensures);
      fits = c.requires.fits;
    }

pub returns-clause-locks : goal.returns-clause-locks
returns-clause-locks c =
    let old = c.self.inside.places.items in
    let items : c.pack.new.places.items ≡ map Some (locks_of old) = c.pack.ensures.items ∙ ap (λ ps. map Some (locks_of ps)) c.reserve.ensures.items in
    ap locks_of items ∙ locks_packed (locks_of old) ∙ ap (λ (g : Granted). locks_of g.places) c.self.view_is
