use Rattle.std.proofs.Common.{take}
use Rattle.page_recovery.specs.Pages.{BecomeBy}
use Rattle.page_recovery.specs.Applying.{edited_so_far}
use Rattle.page_recovery.proofs.applying.edit_all.Given as goal

abbrev pub invariant-loop-record : goal.invariant-loop-record
invariant-loop-record l = BecomeBy (edited_so_far l.lsn (take l.record-index l.records)) l.fn.pages l.pages
