use Rattle.std.proofs.Common.{◌≤◌}
use Rattle.store_api.specs.Areas.{State}
use Rattle.store_api.specs.Past.{Now, Meanwhile}
use Rattle.doublewrite.specs.Repairing.{ReadsAs, IsRestoringFrom}
use Rattle.doublewrite.proofs.restoring.restore_all.Given as goal

abbrev pub invariant-loop-slot : goal.invariant-loop-slot
invariant-loop-slot g l = record {
  faults : (g.D.Disk.past l.fn.disk).faults ≤ (g.D.Disk.past l.disk).faults;
  stands : (before : State) → Now (IsRestoringFrom before l.double 0) (g.D.Disk.past l.fn.disk) → Now (IsRestoringFrom before l.double l.slot) (g.D.Disk.past l.disk);
  crash : (before : State) → Now (IsRestoringFrom before l.double 0) (g.D.Disk.past l.fn.disk) → Meanwhile (ReadsAs before) (g.D.Disk.past l.fn.disk) (g.D.Disk.past l.disk);
}
