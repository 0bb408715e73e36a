use Rattle.std.proofs.Common.{◌≡◌, ◌+◌, ◌*◌, ◌++◌, ◌≤◌, length, vec_len, vec_capacity}
use Rattle.log_format.proofs.Blocks.{BlocksSoFar}
use Rattle.log_format.proofs.block.put_both_as_blocks.Given as goal

abbrev pub invariant-loop-first : goal.invariant-loop-first
invariant-loop-first l = record {
  so_far : BlocksSoFar l.run l.number (l.head ++ l.bytes) l.fn.out.items l.count (l.first ++ l.rest) l.out.items;
  len : vec_len l.out ≡ vec_len l.fn.out + 512 * l.count;
  grows : vec_capacity l.fn.out ≤ vec_capacity l.out;
}

abbrev pub decreases-loop-first : goal.decreases-loop-first
decreases-loop-first l = length l.first + length l.rest
