use Rattle.std.proofs.Common.{arith}
use Rattle.flusher.proofs.Sealing.{sealing}
use Rattle.flusher.proofs.gathering.sealed.Goals as goal

pub returns : goal.returns
returns c =
    let sum = c.with_sum.ensures in
    sealing c.args.page c.args.bytes.now c.with_number.result c.with_sum.result c.ranges.page.fits c.requires
    (λ i. omega (arith, c.type_inv.bytes i)) c.with_number.ensures sum.behind sum.size sum.sum sum.front
