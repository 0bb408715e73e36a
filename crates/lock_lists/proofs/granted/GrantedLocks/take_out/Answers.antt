use Rattle.std.proofs.Common.{◌∙◌, get_or, set, sym, ap, subst, arith, length-set}
use Rattle.std.specs.Prelude.{None, IsSome}
use Rattle.lock_lists.specs.Last.{Chained}
use Rattle.lock_lists.specs.Places.{Granted, AreChained}
use Rattle.lock_lists.proofs.Locks.{some_lock, inside_locks, count_off}
use Rattle.lock_lists.proofs.Changed.{chained_off}
use Rattle.lock_lists.proofs.granted.GrantedLocks.take_out.Goals as goal

pub overflow_sub-self : goal.overflow_sub-self
overflow_sub-self c =
    let places = c.self.inside.places.items in
    let place = c.args.place in
    let held = some_lock (get_or places place None) (subst (λ (g : Granted). IsSome (get_or g.places place None)) (sym c.self.view_is) c.requires) in
    omega (arith, c.self.invariant.counted, count_off places place held.0 (inside_locks places place held.0 held.1) held.1)

pub invariant_of-self : goal.invariant_of-self
invariant_of-self c =
    let places = c.self.inside.places.items in
    let place = c.args.place in
    let held = some_lock (get_or places place None) (subst (λ (g : Granted). IsSome (get_or g.places place None)) (sym c.self.view_is) c.requires) in
    let lt = inside_locks places place held.0 held.1 in
    let kept = c.self.invariant in
    record {
      chained = subst (λ t. AreChained (set places place None) t c.self.inside.txns) (sym c.unlink.ensures)
          (chained_off places c.self.inside.spots c.self.inside.txns kept.chained place lt);
      counted = omega (arith, kept.counted, count_off places place held.0 lt held.1);
      within = omega (arith, kept.within, length-set places place None);
      spots_room = ap (λ (t : Chained). t.room) c.unlink.ensures ∙ kept.spots_room;
      txns_room = kept.txns_room;
      holds = kept.holds;
      fits = kept.fits;
    }
