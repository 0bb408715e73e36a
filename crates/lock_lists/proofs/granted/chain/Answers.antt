use Rattle.std.proofs.Common.{◌≡◌, ◌<◌, ◌++◌, ◌∷◌, [], ◌+◌, ◌%◌, ◌∙◌, take, get_or, sym, ap, subst, length}
use Rattle.std.specs.Prelude.{None, Some}
use Rattle.std.proofs.lemmas.List.{take_more, get_or_read}
use Rattle.lock_lists.specs.Last.{Chained}
use Rattle.lock_lists.specs.Places.{sum_of, locks_of, AreChained}
use Rattle.lock_lists.proofs.Changed.{chained_push, with_mark}
use Rattle.lock_lists.proofs.Locks.{none_empty}
use Rattle.lock_lists.proofs.granted.chain.Goals as goal
use Rattle.lock_lists.proofs.granted.chain.Goals.{in-Some, in-None}

pub loop-place-preserved : goal.loop-place-preserved
loop-place-preserved c =
    let places = c.args.places.now in
    let i = c.loop-place.place-index in
    let spots = c.loop-place.spots in
    let txns = c.loop-place.txns in
    let so_far = c.loop-place.invariant in
    elim c.match-place.branch [
      | in-Some w ↦
          let lock = w.in-Some.lock in
          let at : get_or places i None ≡ Some lock = sym (get_or_read places i c.place-item.result c.loop-place-test.true c.place-item.is None) ∙ w.in-Some.is in
          let more : take (i + 1) places ≡ take i places ++ Some lock ∷ [] = take_more places i None c.loop-place-test.true ∙ ap (λ p. take i places ++ p ∷ []) at in
          let spot : w.bucket_of.result ≡ sum_of lock.spot % spots.room =
          w.bucket_of.ensures.same ∙ ap (λ n. n % c.room-buckets.result) w.sum.ensures ∙ ap (λ n. sum_of lock.spot % n) (c.room-buckets.ensures ∙ sym so_far.spots_stay) in
          let owner : w.bucket_of-in-Some.result ≡ lock.txn % txns.room =
          w.bucket_of-in-Some.ensures.same ∙ ap (λ n. n % c.room-owners.result) w.txn.ensures ∙ ap (λ n. lock.txn % n) (c.room-owners.ensures ∙ sym so_far.txns_stay) in
          let spots_are : c.match-place.spots ≡ with_mark spots (sum_of lock.spot % spots.room) = w.spots-is ∙ w.push.ensures ∙ ap (with_mark spots) spot in
          let txns_are : c.match-place.txns ≡ with_mark txns (lock.txn % txns.room) = w.txns-is ∙ w.push-in-Some.ensures ∙ ap (with_mark txns) owner in
          record {
            chained = subst (λ ps. AreChained ps c.match-place.spots c.match-place.txns) (sym more)
                (subst (λ t. AreChained (take i places ++ Some lock ∷ []) t c.match-place.txns) (sym spots_are)
                (subst (λ t. AreChained (take i places ++ Some lock ∷ []) (with_mark spots (sum_of lock.spot % spots.room)) t) (sym txns_are)
                (chained_push (take i places) spots txns so_far.chained lock)));
            spots_stay = ap (λ (t : Chained). t.room) spots_are ∙ so_far.spots_stay;
            txns_stay = ap (λ (t : Chained). t.room) txns_are ∙ so_far.txns_stay;
          }
      | in-None w ↦
          let at : get_or places i None ≡ None = sym (get_or_read places i c.place-item.result c.loop-place-test.true c.place-item.is None) ∙ w.in-None.is in
          let full = c.requires.full in
          absurd (none_empty (locks_of places) i (subst (λ ps. i < length ps) full c.loop-place-test.true) (sym (ap (λ ps. get_or ps i None) full) ∙ at))
    ]
