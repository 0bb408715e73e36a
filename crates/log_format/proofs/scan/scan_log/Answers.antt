use Rattle.std.proofs.Common.{List, ℕ, subst}
use Rattle.log_format.specs.Scan.{HoldsGroups}
use Rattle.log_format.proofs.Behind.{ends_there, IfSome-weaker}
use Rattle.log_format.proofs.scan.scan_log.Goals as goal

pub returns-clause-ends : goal.returns-clause-ends
returns-clause-ends c =
    let area = c.args.bytes.now in
    let stream = c.in_ok-stream.stream.items in
    let groups = c.in_ok-groups.groups.items in
    let held = subst (λ (l : List ℕ). HoldsGroups c.args.first l groups) c.deref.ensures.value c.in_ok-groups.ensures.groups in
    rw c.from_vec.ensures
    (IfSome-weaker c.block_behind-blocks.result _ _ (λ n has. ends_there c.args.run c.args.first area stream groups c.in_ok-stream.ensures held c.in_ok-groups.len c.in_ok-groups.ensures.len n has) c.block_behind-blocks.ensures.some)
