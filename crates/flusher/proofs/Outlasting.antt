-- A run that goes on while no page is written on the disk.
use Rattle.std.proofs.Common.{◌≡◌, ℕ, ◌+◌, ◌*◌, ◌<◌, ◌≤◌, Option, Some, None, List, ◌++◌, length, IsTrue, refl, sym, ◌∙◌, subst}
use Rattle.store_api.specs.Areas.{Contents, State, WasWhole}
use Rattle.log_format.specs.declared.group.Group.{Group}
use Rattle.redo_log.specs.View.{LogView}
use Rattle.redo_log.specs.Logged.{IsLogged}
use Rattle.doublewrite.specs.Batches.{BatchView, StagedView}
use Rattle.doublewrite.specs.Kept.{IsSettled, IsStaged, HasPlaced}
use Rattle.law_logged_pages.specs.Stages.{begins_fresh, records_in, IsUnwritten}
use Rattle.law_logged_pages.proofs.Placement.{outlast, batch_outlasts}
use Rattle.flusher.specs.Flushing.{HoldsPages, HoldsRun}
use Rattle.flusher.proofs.Holding.{some}

-- the state with the log as it is now
abbrev with_log : Contents → State → State
with_log log s = record { log = log; double = s.double; pages = s.pages }

staged_still : (batch : BatchView) (x b s : State) → IsStaged x batch b → s.pages ≡ b.pages → s.double ≡ b.double
    → IsStaged (with_log s.log x) batch s
staged_still batch x b s staged pages double = record {
  double = staged.double;
  double_is = double ∙ staged.double_is;
  copies = staged.copies;
  others = staged.others;
  held = λ number bytes good was. staged.held number bytes good (subst (λ (c : Contents). WasWhole c (4096 * number) bytes) pages was);
  settled = λ number out settled. subst (IsSettled number) (sym pages) (staged.settled number out settled);
  log_is = refl;
}

placed_still : (staged : StagedView) (b s : State) → HasPlaced staged b → s.pages ≡ b.pages → HasPlaced staged s
placed_still staged b s has pages =
    subst (λ (c : Contents). HasPlaced staged (record { log = s.log; double = s.double; pages = c })) (sym pages)
    (record { each = has.each; synced = has.synced })

module _ (first : ℕ) (groups more : List Group) (base : ℕ → List ℕ) (log later : LogView) (b s : State) (few : log.flushed < first + length groups)
    (upto : log.flushed ≤ later.flushed) (fresh : (page : ℕ) → IsUnwritten base groups page → IsTrue (begins_fresh page (records_in (groups ++ more))))
    (pages : s.pages ≡ b.pages) (double : s.double ≡ b.double) where
  pages_still : (staged : Option StagedView) → HoldsPages first log.flushed groups base staged b
      → HoldsPages first later.flushed (groups ++ more) base staged s
  pages_still None placed = outlast first log.flushed later.flushed groups more base b s few upto placed fresh pages double
  pages_still (Some staged) held =
      let x = held.0 in
      let way = held.1 in (
        with_log s.log x,
        record {
          placed = outlast first log.flushed later.flushed groups more base x (with_log s.log x) few upto way.placed fresh refl refl;
          may = batch_outlasts first log.flushed later.flushed groups more base staged.batch x (with_log s.log x) few upto way.may refl;
          stands = staged_still staged.batch x b s way.stands pages double;
          in_place = placed_still staged b s way.in_place pages;
        },
      )

pub outlasts : (first : ℕ) (groups more : List Group) (base : ℕ → List ℕ) (staged : Option StagedView) (log later : LogView) (before s : State)
    → HoldsRun first groups base staged log before → IsLogged first (groups ++ more) later s.log → log.flushed ≤ later.flushed
    → ((page : ℕ) → IsUnwritten base groups page → IsTrue (begins_fresh page (records_in (groups ++ more))))
    → s.pages ≡ before.pages → s.double ≡ before.double → HoldsRun first (groups ++ more) base staged later s
outlasts first groups more base staged log later before s held logged upto fresh pages double = record {
  run = record { each = logged.each; bases = held.run.bases };
  logged = logged;
  pages = pages_still first groups more base log later before s (some first groups log before.log held.logged) upto fresh pages double staged held.pages;
}
