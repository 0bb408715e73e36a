use Rattle.std.proofs.Common.{◌≡◌, ◌+◌, ◌-◌, ◌*◌, take, drop, arith}
use Rattle.stored_pages.proofs.copies.copy_at.Goals as goal

pub returns-clause-value : goal.returns-clause-value
returns-clause-value c =
    let n : (c.args.slot + 1) * 4096 - c.args.slot * 4096 ≡ 4096 = omega arith in
    let at : c.args.slot * 4096 ≡ 4096 * c.args.slot = omega arith in
    λ i. take (n i) (drop (at i) c.args.double.now)
