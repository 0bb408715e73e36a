use Rattle.std.proofs.Common.{◌≡◌, ◌+◌, ◌-◌, ◌≤◌, ◌++◌, ◌∷◌, [], List, take, length, sym, ap, subst, ◌∙◌, arith}
use Rattle.mini_txn.specs.declared.dealt.Entry.{Entry}
use Rattle.mini_txn.specs.View.{AreHeld, Places}
use Rattle.mini_txn.proofs.Placed.{places_then, others_held}
use Rattle.mini_txn.proofs.placing.place_copies.Goals as goal

pub loop-left-preserved : goal.loop-left-preserved
loop-left-preserved c =
    let was = c.loop-left.invariant in
    let dealt = c.args.dealt.now in
    let left = c.loop-left.left in
    let pool = c.loop-left.pool in
    let new = c.place_entry.new.pool in
    let front = take (left - 1) dealt in
    let back : left - 1 + 1 ≡ left = omega (arith, c.loop-left-test.true) in
    let whole : take left dealt ≡ front ++ c.at.result.now ∷ [] = ap (λ n. take n dealt) (sym back) ∙ c.at.ensures in
    let all = c.place_entry.ensures front in
    let one = subst (λ (l : List Entry). Places c.args.lsn pool l new front) (sym whole) all in
    let held = subst (AreHeld pool) whole was.2 in (
      omega (arith, was.0),
      places_then c.args.lsn c.args.pool.now dealt pool (take left dealt) new front was.1 one,
      others_held c.args.lsn pool new front c.at.result.now held all,
    )
