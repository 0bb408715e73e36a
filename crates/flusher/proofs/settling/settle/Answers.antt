use Rattle.std.proofs.Common.{◌≡◌, ℕ, suc, ◌+◌, List, subst, arith}
use Rattle.flusher.specs.Cleaning.{Cleans, CleansOne}
use Rattle.flusher.proofs.Cleaned.{cleans_more}
use Rattle.flusher.proofs.settling.settle.Goals as goal

pub loop-slot-preserved : goal.loop-slot-preserved
loop-slot-preserved c =
    let batch = c.args.batch.now in
    let k = c.loop-slot.slot in
    let one = subst (λ (l : List ℕ). CleansOne l c.loop-slot.pool c.settle_page.new.pool) c.page.ensures.value c.settle_page.ensures in
    let next : suc k ≡ k + 1 = omega arith in
    subst (λ (n : ℕ). Cleans batch n c.args.pool.now c.settle_page.new.pool) next
    (cleans_more batch k c.args.pool.now c.loop-slot.pool c.settle_page.new.pool c.loop-slot.invariant one)
