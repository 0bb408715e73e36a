use Rattle.std.proofs.Common.{sym, ap, subst, ◌∙◌, ◌++◌, ◌∷◌, [], arith, ◌+◌, ◌<◌, length, length-append, drop, vec_capacity}
use Rattle.lock_table.specs.Records.{as_gap, uncovered, own_copies}
use Rattle.lock_table.proofs.Walk.{IsCopied}
use Rattle.lock_table.proofs.Copying.{copied_one, skipped_one, length-copies}
use Rattle.lock_table.proofs.lists.copy_gaps.Goals as goal
use Rattle.lock_table.proofs.lists.copy_gaps.Goals.{then-is_own_gap, else-is_own_gap}

pub loop-i-preserved : goal.loop-i-preserved
loop-i-preserved c =
    let a = c.args in
    let old = a.granted.now in
    let now = c.loop-i.granted in
    let lock = c.index-lock.result.now in
    let within : c.loop-i.i < length old.items = omega (arith, c.loop-i-test.true, c.loop-i.auto.i-end, c.len-i-end.ensures) in
    elim c.if-is_own_gap.branch [
      | then-is_own_gap w ↦
          let copied = copied_one a.txn a.new.now a.next.now old.items now.items c.loop-i.i (vec_capacity old) (vec_capacity now) c.loop-i.invariant
          within lock c.index-lock.ensures (sym c.is_own_gap.ensures ∙ w.if-is_own_gap.true) in
          let copy = w.as_gap-copy.ensures ∙ ap (λ r. as_gap r a.new.now lock) w.number.ensures in
          let items = w.add_gap.ensures.items ∙ ap (λ l. now.items ++ uncovered now.items (l ∷ [])) copy in
          let after = w.add_gap.new.granted in
          subst (λ g. IsCopied a.txn a.new.now a.next.now old.items g.items (c.loop-i.i + 1) (vec_capacity old) (vec_capacity g)) (sym w.granted-is)
          (subst (λ ls. IsCopied a.txn a.new.now a.next.now old.items ls (c.loop-i.i + 1) (vec_capacity old) (vec_capacity after)) (sym items)
          (subst (λ n. IsCopied a.txn a.new.now a.next.now old.items _ (c.loop-i.i + 1) (vec_capacity old) n) (sym w.add_gap.ensures.capacity) copied))
      | else-is_own_gap w ↦
          subst (λ g. IsCopied a.txn a.new.now a.next.now old.items g.items (c.loop-i.i + 1) (vec_capacity old) (vec_capacity g)) (sym w.granted-is)
          (skipped_one a.txn a.new.now a.next.now old.items now.items c.loop-i.i (vec_capacity old) (vec_capacity now) c.loop-i.invariant
          within lock c.index-lock.ensures (sym c.is_own_gap.ensures ∙ w.if-is_own_gap.false))
    ]

pub returns-clause-few : goal.returns-clause-few
returns-clause-few c =
    let a = c.args in
    let so_far = c.loop-i.invariant in
    let rest = uncovered c.loop-i.granted.items (own_copies a.txn a.new.now a.next.now (drop c.loop-i.i a.granted.now.items)) in
    omega (
      arith,
      ap length so_far.items,
      length-append a.granted.now.items so_far.done,
      ap length so_far.same,
      length-append so_far.done rest,
      length-copies a.txn a.new.now a.next.now a.granted.now.items,
    )
