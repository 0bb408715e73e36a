use Rattle.std.proofs.Common.{◌-◌}
use Rattle.page_format.specs.Words.{count_of, records_of}
use Rattle.btree.proofs.Passing.{IsNarrowed}
use Rattle.btree.proofs.page.first_place.Given as goal

abbrev pub invariant-loop-low : goal.invariant-loop-low
invariant-loop-low l = IsNarrowed l.tree.key_len l.bound l.key (records_of l.bytes) (count_of l.bytes) l.low l.high

abbrev pub decreases-loop-low : goal.decreases-loop-low
decreases-loop-low l = l.high - l.low
