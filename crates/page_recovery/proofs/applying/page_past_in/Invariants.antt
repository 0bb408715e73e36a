use Rattle.std.proofs.Common.{take, All}
use Rattle.page_recovery.specs.Applying.{IsWithin}
use Rattle.page_recovery.proofs.applying.page_past_in.Given as goal

abbrev pub invariant-loop-record : goal.invariant-loop-record
invariant-loop-record l = All (IsWithin l.count) (take l.record-index l.records)
