use Rattle.std.proofs.Common.{◌≡◌, ◌%◌, ◌∙◌, get_or, set, sym, ap, subst, arith, length-set}
use Rattle.std.specs.Prelude.{None, Some, IsSome, IfSome}
use Rattle.lock_lists.specs.Last.{Chained}
use Rattle.lock_lists.specs.Places.{Granted, AreChained, sum_of}
use Rattle.lock_lists.proofs.Locks.{some_lock, inside_locks, count_same}
use Rattle.lock_lists.proofs.Changed.{chained_over, over_mark, off_mark}
use Rattle.lock_lists.proofs.granted.GrantedLocks.replace.Goals as goal

pub invariant_of-self : goal.invariant_of-self
invariant_of-self c =
    let places = c.self.inside.places.items in
    let spots = c.self.inside.spots in
    let place = c.args.place in
    let lock = c.args.lock in
    let kept = c.self.invariant in
    let held = some_lock (get_or places place None) (subst (λ (g : Granted). IsSome (get_or g.places place None)) (sym c.self.view_is) c.requires.held) in
    let lt = inside_locks places place held.0 held.1 in
    let owner : held.0.txn ≡ lock.txn =
    subst (λ p. IfSome p (λ h. h.txn ≡ lock.txn)) held.1
    (subst (λ (g : Granted). IfSome (get_or g.places place None) (λ h. h.txn ≡ lock.txn)) (sym c.self.view_is) c.requires.owner) in
    let spot : c.bucket_of-bucket.result ≡ sum_of lock.spot % spots.room =
    c.bucket_of-bucket.ensures.same ∙ ap (λ n. n % c.room.result) c.sum.ensures ∙ ap (λ n. sum_of lock.spot % n) c.room.ensures in
    let spots_are : c.link.new.self ≡ over_mark (off_mark spots place) place (sum_of lock.spot % spots.room) =
    c.link.ensures ∙ ap (λ t. over_mark t place c.bucket_of-bucket.result) c.unlink.ensures ∙ ap (over_mark (off_mark spots place) place) spot in
    record {
      chained = subst (λ t. AreChained (set places place (Some lock)) t c.self.inside.txns) (sym spots_are)
          (chained_over places spots c.self.inside.txns kept.chained place held.0 lock lt held.1 owner);
      counted = kept.counted ∙ sym (count_same places place held.0 lock lt held.1);
      within = omega (arith, kept.within, length-set places place (Some lock));
      spots_room = ap (λ (t : Chained). t.room) spots_are ∙ kept.spots_room;
      txns_room = kept.txns_room;
      holds = kept.holds;
      fits = kept.fits;
    }
