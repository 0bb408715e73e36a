use Rattle.std.proofs.Common.{◌≡◌, ◌+◌, ◌-◌, ◌*◌, take, drop, ◌∙◌, ap, arith}
use Rattle.doublewrite.specs.Batches.{BatchView}
use Rattle.doublewrite.proofs.batch.Batch.page.Goals as goal

pub returns-clause-value : goal.returns-clause-value
returns-clause-value c =
    let n : (c.args.slot + 1) * 4096 - c.args.slot * 4096 ≡ 4096 = omega arith in
    let at : c.args.slot * 4096 ≡ 4096 * c.args.slot = omega arith in
    let bytes : c.deref.result.now ≡ c.args.self.now.bytes = c.deref.ensures.value ∙ ap (λ (b : BatchView). b.bytes) c.self.view_is in
    λ i. take (n i) (drop (at i) (bytes i))
