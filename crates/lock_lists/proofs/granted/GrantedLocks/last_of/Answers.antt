use Rattle.std.proofs.Common.{◌≡◌, ◌<◌, ◌≤◌, ◌-◌, ◌%◌, ◌∙◌, get_or, sym, ap, subst, length, arith}
use Rattle.std.specs.Prelude.{None, false}
use Rattle.std.proofs.lemmas.List.{get_or_read}
use Rattle.lock_lists.specs.Last.{IsLast}
use Rattle.lock_lists.specs.Places.{Granted, holds_at, is_of}
use Rattle.lock_lists.proofs.Found.{emptied_first, emptied_on}
use Rattle.lock_lists.proofs.granted.GrantedLocks.last_of.Goals as goal

pub loop-end-init : goal.loop-end-init
loop-end-init c =
    let txns = c.self.inside.txns in
    let bucket : c.bucket_of-bucket.result ≡ c.args.txn % txns.room = c.bucket_of-bucket.ensures.same ∙ ap (λ n. c.args.txn % n) c.room.ensures in
    emptied_first c.self.inside.places.items c.self.inside.spots txns c.self.invariant.chained c.args.txn c.args.limit c.last_before-end.result
    (subst (λ b. IsLast b txns.marks c.args.limit c.last_before-end.result) bucket c.last_before-end.ensures)

pub loop-end-preserved : goal.loop-end-preserved
loop-end-preserved c =
    let places = c.self.inside.places.items in
    let txns = c.self.inside.txns in
    let end = c.loop-end.end in
    let so_far = c.loop-end.invariant in
    let limit : c.args.limit ≤ length places = subst (λ (g : Granted). c.args.limit ≤ length g.places) (sym c.self.view_is) c.requires in
    let bucket : c.bucket_of-bucket.result ≡ c.args.txn % txns.room = c.bucket_of-bucket.ensures.same ∙ ap (λ n. c.args.txn % n) c.room.ensures in
    let upto = so_far.within in
    let within : end - 1 < length places = omega (arith, upto, limit, c.loop-end-test.true) in
    let read : c.index.result.now ≡ get_or places (end - 1) None = get_or_read places (end - 1) c.index.result.now within c.index.ensures None in
    let other : holds_at (is_of c.args.txn) (get_or places (end - 1) None) ≡ false =
    ap (holds_at (is_of c.args.txn)) (sym read) ∙ sym c.is_held_by.ensures ∙ c.if-is_held_by.false in
    emptied_on places c.self.inside.spots txns c.self.invariant.chained c.args.txn c.args.limit end c.last_before-end-in-loop-end.result so_far c.loop-end-test.true
    (subst (λ b. IsLast b txns.marks (end - 1) c.last_before-end-in-loop-end.result) bucket c.last_before-end-in-loop-end.ensures) other
