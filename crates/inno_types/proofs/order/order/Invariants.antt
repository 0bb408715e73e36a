use Rattle.std.proofs.Common.{◌≡◌, ◌*◌, take}
use Rattle.inno_types.proofs.order.order.Given as goal

abbrev pub invariant-loop-i : goal.invariant-loop-i
invariant-loop-i l = take (8 * l.i) l.bytes ≡ take (8 * l.i) l.other
