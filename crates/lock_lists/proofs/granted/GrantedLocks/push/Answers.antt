use Rattle.std.proofs.Common.{◌≡◌, ◌≤◌, ◌+◌, ◌%◌, ◌∙◌, ◌++◌, ◌∷◌, [], sym, ap, subst, length, arith, length-append}
use Rattle.std.specs.Prelude.{Some}
use Rattle.lock_lists.specs.Last.{Chained}
use Rattle.lock_lists.specs.Places.{Granted, HasFree, AreChained, locks_of, sum_of}
use Rattle.lock_lists.proofs.Locks.{few_locks, locks_append}
use Rattle.lock_lists.proofs.Changed.{chained_push, with_mark}
use Rattle.lock_lists.proofs.granted.GrantedLocks.push.Goals as goal

pub overflow_add-self : goal.overflow_add-self
overflow_add-self c =
    let places = c.self.inside.places.items in
    let free : length places + 1 ≤ c.self.inside.room + c.self.inside.room = subst (λ (g : Granted). HasFree 1 g) (sym c.self.view_is) c.requires in
    omega (arith, c.self.invariant.counted, few_locks places, c.self.invariant.fits, free)

pub invariant_of-self : goal.invariant_of-self
invariant_of-self c =
    let places = c.self.inside.places.items in
    let spots = c.self.inside.spots in
    let txns = c.self.inside.txns in
    let lock = c.args.lock in
    let kept = c.self.invariant in
    let free : length places + 1 ≤ c.self.inside.room + c.self.inside.room = subst (λ (g : Granted). HasFree 1 g) (sym c.self.view_is) c.requires in
    let spot : c.bucket_of-spot.result ≡ sum_of lock.spot % spots.room =
    c.bucket_of-spot.ensures.same ∙ ap (λ n. n % c.room.result) c.sum.ensures ∙ ap (λ n. sum_of lock.spot % n) c.room.ensures in
    let owner : c.bucket_of-owner.result ≡ lock.txn % txns.room =
    c.bucket_of-owner.ensures.same ∙ ap (λ n. n % c.room-2.result) c.txn.ensures ∙ ap (λ n. lock.txn % n) c.room-2.ensures in
    let spots_are : c.push.new.self ≡ with_mark spots (sum_of lock.spot % spots.room) = c.push.ensures ∙ ap (with_mark spots) spot in
    let txns_are : c.push-2.new.self ≡ with_mark txns (lock.txn % txns.room) = c.push-2.ensures ∙ ap (with_mark txns) owner in
    let items = c.push_reserved.ensures.items in
    let behind : locks_of c.push_reserved.new.self.items ≡ locks_of places ++ lock ∷ [] = ap locks_of items ∙ locks_append places (Some lock ∷ []) in
    record {
      chained = subst (λ ps. AreChained ps c.push.new.self c.push-2.new.self) (sym items)
          (subst (λ t. AreChained (places ++ Some lock ∷ []) t c.push-2.new.self) (sym spots_are)
          (subst (λ t. AreChained (places ++ Some lock ∷ []) (with_mark spots (sum_of lock.spot % spots.room)) t) (sym txns_are)
          (chained_push places spots txns kept.chained lock)));
      counted = omega (arith, kept.counted, ap length behind, length-append (locks_of places) (lock ∷ []));
      within = omega (arith, ap length items, length-append places (Some lock ∷ []), free);
      spots_room = ap (λ (t : Chained). t.room) spots_are ∙ kept.spots_room;
      txns_room = ap (λ (t : Chained). t.room) txns_are ∙ kept.txns_room;
      holds = omega (arith, kept.holds, c.push_reserved.ensures.capacity);
      fits = kept.fits;
    }

pub returns-clause-locks : goal.returns-clause-locks
returns-clause-locks c =
    let places = c.self.inside.places.items in
    ap locks_of c.push_reserved.ensures.items ∙ locks_append places (Some c.args.lock ∷ []) ∙ ap (λ (g : Granted). locks_of g.places ++ c.args.lock ∷ []) c.self.view_is

pub returns-clause-longer : goal.returns-clause-longer
returns-clause-longer c =
    let places = c.self.inside.places.items in
    omega (arith, ap length c.push_reserved.ensures.items, length-append places (Some c.args.lock ∷ []), ap (λ (g : Granted). length g.places) c.self.view_is)
