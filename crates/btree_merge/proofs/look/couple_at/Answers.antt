use Rattle.std.proofs.Common.{arith}
use Rattle.btree_merge.proofs.Merging.{counted_records}
use Rattle.btree_merge.proofs.look.couple_at.Goals as goal

pub returns-then-from-clause-couple : goal.returns-then-from-clause-couple
returns-then-from-clause-couple c =
    omega (arith, c.if-from.true, c.from-2.ensures, c.from.ensures, c.read_u16.ensures, counted_records c.args.bytes.now)
