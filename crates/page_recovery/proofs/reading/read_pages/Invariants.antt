use Rattle.std.proofs.Common.{◌≡◌, ◌≤◌, length}
use Rattle.store_api.specs.Past.{Now}
use Rattle.store_api.specs.Looks.{Looks, LeavesState}
use Rattle.page_recovery.specs.Reading.{AreStanding}
use Rattle.page_recovery.proofs.reading.read_pages.Given as goal

abbrev pub invariant-loop-page : goal.invariant-loop-page
invariant-loop-page g l =
    let past = g.D.Disk.past in
    record {
      looks : Looks (past l.initial.disk) (past l.disk);
      same : LeavesState (past l.initial.disk) (past l.disk);
      later : (past l.initial.disk).faults ≤ (past l.disk).faults;
      count : length l.pages ≡ l.capacity;
      standing : Now (λ s. AreStanding s.pages.seen l.page l.pages) (past l.disk);
    }
