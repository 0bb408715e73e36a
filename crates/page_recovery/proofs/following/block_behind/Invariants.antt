use Rattle.std.proofs.Common.{◌≤◌, ℕ, List}
use Rattle.store_api.specs.Past.{Now}
use Rattle.log_format.specs.declared.group.Group.{Group}
use Rattle.log_format.specs.Given.{HasGiven}
use Rattle.store_api.specs.Looks.{Looks, LeavesState}
use Rattle.page_recovery.proofs.Followed.{WalksBack}
use Rattle.page_recovery.proofs.following.block_behind.Given as goal

abbrev pub invariant-loop-left : goal.invariant-loop-left
invariant-loop-left g l =
    let past = g.D.Disk.past in
    record {
      looks : Looks (past l.fn.disk) (past l.disk);
      same : LeavesState (past l.fn.disk) (past l.disk);
      later : (past l.fn.disk).faults ≤ (past l.disk).faults;
      within : l.block ≤ l.reader.block;
      walks : (first : ℕ) (groups : List Group)
          → Now (λ s. HasGiven first s.log.seen groups l.reader → WalksBack s.log.seen groups l.block l.left) (past l.disk);
    }

abbrev pub decreases-loop-left : goal.decreases-loop-left
decreases-loop-left g l = l.block
