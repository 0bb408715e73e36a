use Rattle.std.proofs.Common.{◌≡◌, ◌≤◌}
use Rattle.store_api.specs.Looks.{Looks, LeavesState}
use Rattle.page_recovery.proofs.Followed.{SoFar}
use Rattle.page_recovery.proofs.following.apply_all.Given as goal

abbrev pub invariant-loop-turn : goal.invariant-loop-turn
invariant-loop-turn g l =
    let past = g.D.Disk.past in
    record {
      looks : Looks (past l.fn.disk) (past l.disk);
      same : LeavesState (past l.fn.disk) (past l.disk);
      later : (past l.fn.disk).faults ≤ (past l.disk).faults;
      run : l.reader.run ≡ l.fn.reader.run;
      few : l.count ≤ l.turn;
      so_far : SoFar l.fn.pages l.fn.reader (past l.disk) l.pages l.reader l.count l.past;
    }
