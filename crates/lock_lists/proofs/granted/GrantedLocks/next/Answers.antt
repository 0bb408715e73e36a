use Rattle.std.proofs.Common.{◌≡◌, ◌<◌, ◌-◌, ◌%◌, ◌∙◌, get_or, sym, ap, subst, length, arith}
use Rattle.std.specs.Prelude.{None, true, false}
use Rattle.std.proofs.lemmas.List.{get_or_read}
use Rattle.lock_lists.specs.Last.{IsLast}
use Rattle.lock_lists.specs.Looking.{passes, spot_of}
use Rattle.lock_lists.specs.Places.{holds_at, sum_of}
use Rattle.lock_lists.proofs.Found.{seen_first, seen_on, seen_here}
use Rattle.lock_lists.proofs.Seen.{IsSeen}
use Rattle.lock_lists.proofs.Sums.{passes_here}
use Rattle.lock_lists.proofs.granted.GrantedLocks.next.Goals as goal
use Rattle.lock_lists.proofs.granted.GrantedLocks.next.Goals.{then-stands_at, else-stands_at}

pub loop-end-init : goal.loop-end-init
loop-end-init c =
    let places = c.self.inside.places.items in
    let spots = c.self.inside.spots in
    let sum = sum_of (spot_of c.args.sought) in
    let bucket : c.bucket_of-bucket.result ≡ sum % spots.room =
    c.bucket_of-bucket.ensures.same ∙ ap (λ n. n % c.room.result) c.sum.ensures ∙ ap (λ n. sum % n) c.room.ensures in
    let long : c.len.result ≡ length places = omega (arith, c.len.ensures, c.self.inside.places.ok.0) in
    let end = c.last_before-end.result in
    let last : IsLast (sum % spots.room) spots.marks c.len.result end = subst (λ b. IsLast b spots.marks c.len.result end) bucket c.last_before-end.ensures in
    seen_first places spots c.self.inside.txns c.self.invariant.chained (passes c.args.sought) sum (passes_here c.args.sought) c.args.from end
    (subst (λ n. IsLast (sum % spots.room) spots.marks n end) long last)

pub loop-end-preserved : goal.loop-end-preserved
loop-end-preserved c =
    let places = c.self.inside.places.items in
    let spots = c.self.inside.spots in
    let test = passes c.args.sought in
    let end = c.loop-end.end in
    let so_far = c.loop-end.invariant in
    let sum = sum_of (spot_of c.args.sought) in
    let bucket : c.bucket_of-bucket.result ≡ sum % spots.room =
    c.bucket_of-bucket.ensures.same ∙ ap (λ n. n % c.room.result) c.sum.ensures ∙ ap (λ n. sum % n) c.room.ensures in
    let upto = so_far.within in
    let within : end - 1 < length places = omega (arith, upto, c.loop-end-test.true) in
    let read : c.index.result.now ≡ get_or places (end - 1) None = get_or_read places (end - 1) c.index.result.now within c.index.ensures None in
    let before = c.last_before-end-in-loop-end.result in
    let last : IsLast (sum % spots.room) spots.marks (end - 1) before = subst (λ b. IsLast b spots.marks (end - 1) before) bucket c.last_before-end-in-loop-end.ensures in
    elim c.if-stands_at.branch [
      | then-stands_at w ↦
          let is_so : holds_at test (get_or places (end - 1) None) ≡ true = ap (holds_at test) (sym read) ∙ sym c.stands_at.ensures ∙ w.if-stands_at.true in
          subst (IsSeen test places c.args.from before) (sym w.next-is)
          (seen_here places spots c.self.inside.txns c.self.invariant.chained test sum (passes_here c.args.sought) c.args.from end before c.loop-end.next so_far c.loop-end-test.true last is_so)
      | else-stands_at w ↦
          let fails : holds_at test (get_or places (end - 1) None) ≡ false = ap (holds_at test) (sym read) ∙ sym c.stands_at.ensures ∙ w.if-stands_at.false in
          subst (IsSeen test places c.args.from before) (sym w.next-is)
          (seen_on places spots c.self.inside.txns c.self.invariant.chained test sum (passes_here c.args.sought) c.args.from end before c.loop-end.next so_far c.loop-end-test.true last fails)
    ]
