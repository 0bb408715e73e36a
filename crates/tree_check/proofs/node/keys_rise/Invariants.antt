use Rattle.std.proofs.Common.{◌<◌, take, map}
use Rattle.page_format.specs.Words.{records_of}
use Rattle.page_format.specs.Shape.{AreRising}
use Rattle.tree_check.proofs.node.keys_rise.Given as goal

abbrev pub invariant-loop-i : goal.invariant-loop-i
invariant-loop-i l = record {
  some : 0 < l.i;
  rising : AreRising (map (take l.tree.key_len) (take l.i (records_of l.bytes)));
}
