-- What calls of the log and the doublewrite make of a run that the disk holds.
use Rattle.std.proofs.Common.{◌≡◌, ℕ, ◌+◌, ◌<◌, ◌≤◌, Some, None, List, [], length, take, sym, ◌∙◌, ap, subst, arith, length-append}
use Rattle.std.proofs.lemmas.List.{take_all, append-nil}
use Rattle.store_api.specs.Areas.{Contents, State}
use Rattle.stored_pages.specs.Words.{lsn_of}
use Rattle.log_format.specs.declared.group.Group.{Group}
use Rattle.redo_log.specs.View.{LogView}
use Rattle.redo_log.specs.Logged.{IsLogged, LeavesPrefix, Stands, StandsMeanwhile}
use Rattle.redo_log.proofs.Crash.{holds_prefix}
use Rattle.doublewrite.specs.Batches.{BatchView, StagedView, IsInBatch, page_at}
use Rattle.doublewrite.specs.Kept.{IsStaged, IsStagedHonestly, KeepsPages, HasPlaced}
use Rattle.law_logged_pages.specs.Applied.{page_after, logical}
use Rattle.law_logged_pages.specs.Keeping.{Keeps, IsPlaced, IsLoggedBefore, MayBePlaced}
use Rattle.law_logged_pages.proofs.Edits.{lsn-same}
use Rattle.law_logged_pages.proofs.Groups.{lsn_of_all}
use Rattle.law_logged_pages.proofs.Placement.{placed_keep, may_be_placed, batch_keeps, outlast}
use Rattle.law_logged_pages.proofs.Afterwards.{placed_still}
use Rattle.flusher.specs.Flushing.{AreNewestIn, IsUnderWay, HoldsPages, HoldsRun, KeepsSince}

-- ---- the log

module _ (first : ℕ) (groups : List Group) (log : LogView) (c : Contents) (is : IsLogged first groups log c) where
  pub some : log.flushed < first + length groups
  some =
      let parts : length groups ≡ length is.durable + length is.waiting = ap length is.split ∙ length-append is.durable is.waiting in
      omega (arith, is.flushed, parts)

  pub leaves : LeavesPrefix log.run first groups log.flushed c
  leaves image left honest = holds_prefix first groups log c is image left honest

-- the log was flushed further, and the pages are placed still
still_placed : (first flushed later : ℕ) (groups : List Group) (base : ℕ → List ℕ) (b s : State) → flushed < first + length groups
    → flushed ≤ later
    → IsPlaced first flushed groups base b → s.pages ≡ b.pages → s.double ≡ b.double → IsPlaced first later groups base s
still_placed first flushed later groups base b s some upto placed pages double =
    let none = append-nil groups in
    subst (λ (gs : List Group). IsPlaced first later gs base s) none
    (outlast first flushed later groups [] base b s some upto placed (λ page unwritten. rw none unwritten.fresh) pages double)

pub flush_holds : (first : ℕ) (groups : List Group) (base : ℕ → List ℕ) (log new : LogView) (b s : State)
    → HoldsRun first groups base None log b
    → log.flushed ≤ new.flushed → Stands first groups new b.double b.pages s → HoldsRun first groups base None new s
flush_holds first groups base log new b s held later stands = record {
  run = held.run;
  logged = stands.logged;
  pages = still_placed first log.flushed new.flushed groups base b s
      (some first groups log b.log held.logged) later held.pages stands.pages_is stands.double_is;
}

pub flush_keeps : (first : ℕ) (groups : List Group) (base : ℕ → List ℕ) (log : LogView) (b s : State)
    → HoldsRun first groups base None log b
    → StandsMeanwhile log.run first groups log.flushed b.double b.pages s → KeepsSince log.run first log.flushed groups base s
flush_keeps first groups base log b s held stands =
    let placed = still_placed first log.flushed log.flushed groups base b s (some first groups log b.log held.logged)
    (omega arith) held.pages stands.pages_is stands.double_is in
    record { now = log.flushed; later = omega arith; keeps = placed_keep first log.flushed groups base s placed log.run stands.log }

-- ---- the copies

module _ (first : ℕ) (groups : List Group) (base : ℕ → List ℕ) (log : LogView) (batch : BatchView) (b : State) (held : HoldsRun first groups base None log b)
    (newest : AreNewestIn groups base batch)
    (logged : (k : ℕ) → k < batch.count → lsn_of (page_at batch k) < log.next → lsn_of (page_at batch k) ≤ log.flushed) where
  given : (page : ℕ) (bytes : List ℕ) → IsInBatch batch page bytes → lsn_of bytes < log.next
  given page bytes there =
      let same : lsn_of bytes ≡ lsn_of (logical base groups (length groups) page) = lsn-same bytes
      (logical base groups (length groups) page) (newest.newest page bytes there).same in
      let all : take (length groups) groups ≡ groups = take_all (length groups) groups (omega arith) in
      let base_is = held.run.bases page in
      let below = lsn_of_all page first groups (base page) held.run.each base_is.size base_is.before in
      let same_all : lsn_of (logical base groups (length groups) page) ≡ lsn_of (page_after page groups (base page)) = ap
      (λ (gs : List Group). lsn_of (page_after page gs (base page))) all in
      omega (arith, same, same_all, below, held.logged.next)

  first_logged : IsLoggedBefore log.flushed groups base batch
  first_logged = record {
    is_batch = newest.is_batch;
    are_bytes = newest.are_bytes;
    newest = newest.newest;
    log_first = λ page bytes there.
        let lsn : lsn_of (page_at batch there.slot) ≡ lsn_of bytes = ap lsn_of there.page in
        let below = given page bytes there in
        let done = logged there.slot there.below (omega (arith, lsn, below)) in
        omega (arith, lsn, done);
  }

  may : MayBePlaced first log.flushed groups base batch b
  may = may_be_placed first log.flushed groups base held.run (some first groups log b.log held.logged) batch first_logged b held.pages

  pub stage_holds : (s : State) → IsStagedHonestly b batch s → 0 < batch.count
      → HoldsRun first groups base (Some (record { batch = batch; placed = 0 })) log s
  stage_holds s staged any = record {
    run = held.run;
    logged = subst (IsLogged first groups log) (sym staged.0.log_is) held.logged;
    pages = (
      b,
      record {
        placed = held.pages;
        may = may;
        stands = staged.0;
        in_place = record { each = λ k below. absurd (omega (arith, below)); synced = λ all. absurd (omega (arith, all, any)) };
      },
    );
  }

  pub stage_keeps : (s : State) → KeepsPages b batch s → Keeps log.run first log.flushed groups base s
  stage_keeps s keeps = batch_keeps first log.flushed groups base batch b held.pages may log.run s keeps (leaves first groups log b.log held.logged)

-- ---- the pages in their places

pub place_keeps : (first : ℕ) (groups : List Group) (base : ℕ → List ℕ) (log : LogView) (staged : StagedView) (x b s : State)
    → IsLogged first groups log b.log
    → IsUnderWay first log.flushed groups base staged x b → KeepsPages x staged.batch s → Keeps log.run first log.flushed groups base s
place_keeps first groups base log staged x b s logged way keeps =
    let same : IsLogged first groups log x.log = subst (IsLogged first groups log) way.stands.log_is logged in
    batch_keeps first log.flushed groups base staged.batch x way.placed way.may log.run s keeps (leaves first groups log x.log same)

module _ (first flushed : ℕ) (groups : List Group) (base : ℕ → List ℕ) (old new : StagedView) (same : new.batch ≡ old.batch) (x b s : State)
    (way : IsUnderWay first flushed groups base old x b) (stands : IsStaged x new.batch s) (has : HasPlaced new s) where
  may_new : MayBePlaced first flushed groups base new.batch x
  may_new = subst (λ (batch : BatchView). MayBePlaced first flushed groups base batch x) (sym same) way.may

  pub place_holds : HoldsPages first flushed groups base (Some new) s
  place_holds = (x, record { placed = way.placed; may = may_new; stands = stands; in_place = has })

  pub last_holds : new.placed ≡ new.batch.count → HoldsPages first flushed groups base None s
  last_holds all = placed_still new may_new.is_batch s has all x stands first flushed groups base way.placed may_new
