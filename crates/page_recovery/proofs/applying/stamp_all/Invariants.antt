use Rattle.std.proofs.Common.{take}
use Rattle.page_recovery.specs.Pages.{BecomeBy}
use Rattle.page_recovery.specs.Applying.{stamped_so_far}
use Rattle.page_recovery.proofs.applying.stamp_all.Given as goal

abbrev pub invariant-loop-record : goal.invariant-loop-record
invariant-loop-record l = BecomeBy (stamped_so_far l.lsn (take l.record-index l.records)) l.fn.pages l.pages
