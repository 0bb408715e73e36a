use Rattle.std.proofs.Common.{◌-◌}
use Rattle.page_format.specs.Words.{count_of, records_of}
use Rattle.page_format.proofs.Searching.{IsNarrowed}
use Rattle.page_format.proofs.records.count_below.Given as goal

abbrev pub invariant-loop-low : goal.invariant-loop-low
invariant-loop-low l = IsNarrowed l.key (records_of l.bytes) (count_of l.bytes) l.low l.high

abbrev pub decreases-loop-low : goal.decreases-loop-low
decreases-loop-low l = l.high - l.low
