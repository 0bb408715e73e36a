-- What calls of the disk make of a run, whichever state the disk was in.
use Rattle.std.proofs.Common.{◌≡◌, ⊎_elim, ◌↔◌, ℕ, ◌+◌, ◌<◌, ◌≤◌, Bool, true, false, IsTrue, Some, None, List, refl, sym, ◌∙◌, subst, arith}
use Rattle.std.proofs.lemmas.Bool.{cases_lt}
use Rattle.store_api.specs.Areas.{Contents, State}
use Rattle.store_api.specs.Past.{Past, Now, Meanwhile}
use Rattle.stored_pages.specs.Words.{lsn_of}
use Rattle.log_format.specs.declared.group.Group.{Group}
use Rattle.redo_log.specs.View.{LogView}
use Rattle.redo_log.specs.Logged.{IsLogged, Stands, StandsMeanwhile}
use Rattle.buffer_pool.specs.Frames.{PoolView}
use Rattle.doublewrite.specs.Batches.{BatchView, StagedView, page_at}
use Rattle.doublewrite.specs.Kept.{HasHonestReads, IsReady, IsReadyAs, IsStaged, IsStagedHonestly, KeepsPages, HasPlaced}
use Rattle.law_logged_pages.specs.Keeping.{IsRun, Keeps}
use Rattle.flusher.specs.Cleaning.{Cleans}
use Rattle.flusher.specs.Flushing.{AreNewestIn, AreNewest, IsUnderWay, HoldsRun, KeepsSince, AreHome}
use Rattle.flusher.proofs.Home.{at_home}
use Rattle.flusher.proofs.Holding.{some, flush_holds, flush_keeps, stage_holds, stage_keeps, place_keeps, place_holds, last_holds}
use Rattle.flusher.proofs.Told.{not_each_log, not_each_double, meanwhile, afterwards}

-- ---- the log is flushed

module _ (first : ℕ) (groups : List Group) (base : ℕ → List ℕ) (log : LogView) (old mid : Past) (ready : Now IsReady old)
    (held : Now (HoldsRun first groups base None log) old) where
  abbrev Held : State → State → Type 0
  Held x b = HoldsRun first groups base None log x × IsReady x

  held_by : Now (λ (b : State). (x : State) × Stands first groups log x.double x.pages b × Held x b) old
  held_by s ticks is = let run = held s ticks is in (s, record { logged = run.logged; double_is = refl; pages_is = refl }, (run, ready s ticks is))

  module _ (new : LogView) (later : log.flushed ≤ new.flushed)
      (stands : (double pages : Contents) → Now (Stands first groups log double pages) old → Now (Stands first groups new double pages) mid) where
    pub flushed_run : Now (λ (s : State). HoldsRun first groups base None new s × IsReady s) mid
    flushed_run =
        afterwards (λ x b. Stands first groups log x.double x.pages b) (λ x s. Stands first groups new x.double x.pages s)
        (λ s. HoldsRun first groups base None new s × IsReady s)
        (λ s. not_each_double (λ x s. Stands first groups new x.double x.pages s) s (λ x p. p.double_is)) old mid Held held_by
        (λ x b s known run p. (
          flush_holds first groups base log new x s run.0 later p,
          record {
            read_pages = subst HasHonestReads (sym p.pages_is) run.1.read_pages;
            read_copies = subst HasHonestReads (sym p.double_is) run.1.read_copies;
          },
        ))
        (λ x. stands x.double x.pages)

  pub flush_crash : ((double pages : Contents) → Now (Stands first groups log double pages) old
      → Meanwhile (StandsMeanwhile log.run first groups log.flushed double pages) old mid) → Meanwhile
      (KeepsSince log.run first log.flushed groups base) old mid
  flush_crash crash =
      meanwhile (λ x b. Stands first groups log x.double x.pages b) (λ x s. StandsMeanwhile log.run first groups log.flushed x.double x.pages s)
      (KeepsSince log.run first log.flushed groups base)
      (λ s. not_each_double (λ x s. StandsMeanwhile log.run first groups log.flushed x.double x.pages s) s (λ x p. p.double_is)) old mid Held held_by
      (λ x b s known run p. flush_keeps first groups base log x s run.0 p)
      (λ x. crash x.double x.pages)

-- ---- the copies are staged

module _ (first : ℕ) (groups : List Group) (base : ℕ → List ℕ) (log : LogView) (batch : BatchView) (mid new : Past)
    (held : Now (λ (s : State). HoldsRun first groups base None log s × IsReady s) mid) (newest : AreNewestIn groups base batch)
    (logged : (k : ℕ) → k < batch.count → lsn_of (page_at batch k) < log.next → lsn_of (page_at batch k) ≤ log.flushed) where
  abbrev HeldAt : State → State → Type 0
  HeldAt x b = HoldsRun first groups base None log x

  ready_by : Now (λ (b : State). (x : State) × IsReadyAs x b × HeldAt x b) mid
  ready_by s ticks is = let run = held s ticks is in (s, (refl, run.1), run.0)

  pub staged_run : 0 < batch.count → ((x : State) → Now (IsReadyAs x) mid → Now (IsStagedHonestly x batch) new)
      → Now (HoldsRun first groups base (Some (record { batch = batch; placed = 0 })) log) new
  staged_run any stands =
      afterwards IsReadyAs (λ x. IsStagedHonestly x batch) (HoldsRun first groups base (Some (record { batch = batch; placed = 0 })) log)
      (λ s. not_each_log (λ x. IsStagedHonestly x batch) s (λ x p. p.0.log_is)) mid new HeldAt ready_by
      (λ x b s known run p. stage_holds first groups base log batch x run newest logged s p any)
      stands

  pub stage_crash : (run flushed : ℕ) → log.run ≡ run → flushed ≤ log.flushed
      → ((x : State) → Now (IsReadyAs x) mid → Meanwhile (KeepsPages x batch) mid new)
      → Meanwhile (KeepsSince run first flushed groups base) mid new
  stage_crash run flushed same later crash =
      meanwhile IsReadyAs (λ x. KeepsPages x batch) (KeepsSince run first flushed groups base)
      (λ s. not_each_log (λ x. KeepsPages x batch) s (λ x p. p.log_is)) mid new HeldAt ready_by
      (λ x b s known held_there p. record {
        now = log.flushed;
        later = later;
        keeps = subst (λ (r : ℕ). Keeps r first log.flushed groups base s) same (stage_keeps first groups base log batch x held_there newest logged s p);
      })
      crash

-- ---- a page is placed

module _ (first : ℕ) (groups : List Group) (base : ℕ → List ℕ) (staged : StagedView) (log : LogView) (old new : Past) (ready : Now IsReady old)
    (held : Now (HoldsRun first groups base (Some staged) log) old) where
  record HeldWay (x b : State) : Type 0 where
    run : IsRun first groups base
    logged : IsLogged first groups log b.log
    way : IsUnderWay first log.flushed groups base staged x b

  way_by : Now (λ (b : State). (x : State) × IsStagedHonestly x staged.batch b × HeldWay x b) old
  way_by s ticks is =
      let run = held s ticks is in
      (run.pages.0, (run.pages.1.stands, (ready s ticks is).read_pages), record { run = run.run; logged = run.logged; way = run.pages.1 })

  module _ (next : StagedView) (same : next.batch ≡ staged.batch)
      (stands : (x : State) → Now (IsStagedHonestly x staged.batch) old → Now (IsStaged x next.batch) new)
      (has : Now (HasPlaced staged) old → Now (HasPlaced next) new) where
    has_now : Now (HasPlaced next) new
    has_now = has (λ s ticks is. (held s ticks is).pages.1.in_place)

    still_logged : (x b s : State) → HeldWay x b → IsStaged x next.batch s → IsLogged first groups log s.log
    still_logged x b s way p = subst (IsLogged first groups log) (way.way.stands.log_is ∙ sym p.log_is) way.logged

    module _ (Q : State → Type 0) (gives : (x b s : State) → HeldWay x b → IsStaged x next.batch s → HasPlaced next s → Q s) where
      placed_by : Now Q new
      placed_by s ticks is =
          afterwards (λ x. IsStagedHonestly x staged.batch) (λ x. IsStaged x next.batch) (λ s. HasPlaced next s → Q s)
          (λ s. not_each_log (λ x. IsStaged x next.batch) s (λ x p. p.log_is)) old new HeldWay way_by
          (λ x b s known way p there. gives x b s way p there) stands s ticks is (has_now s ticks is)

    pub placed_run : Now (HoldsRun first groups base (Some next) log) new
    placed_run = placed_by (HoldsRun first groups base (Some next) log) (λ x b s way p there. record {
      run = way.run;
      logged = still_logged x b s way p;
      pages = place_holds first log.flushed groups base staged next same x b s way.way p there;
    })

    pub last_run : next.placed ≡ next.batch.count → Now (HoldsRun first groups base None log) new
    last_run all = placed_by (HoldsRun first groups base None log) (λ x b s way p there. record {
      run = way.run;
      logged = still_logged x b s way p;
      pages = last_holds first log.flushed groups base staged next same x b s way.way p there all;
    })

    -- the pages that became clean stand in their places
    pub last_home : next ≡ record { batch = staged.batch; placed = staged.batch.count } → (old_pool new_pool : PoolView)
        → AreNewest groups base old_pool
        → Cleans staged.batch staged.batch.count old_pool new_pool → Now (AreHome old_pool new_pool) new
    last_home whole old_pool new_pool newest cleans = placed_by (AreHome old_pool new_pool) (λ x b s way p there page dirty clean.
        at_home first log.flushed groups base staged way.run (some first groups log b.log way.logged) x s way.way.may
        (subst (λ (n : StagedView). HasPlaced n s) whole there) old_pool new_pool newest cleans page dirty clean)

  pub place_crash : ((x : State) → Now (IsStagedHonestly x staged.batch) old → Meanwhile (KeepsPages x staged.batch) old new)
      → Meanwhile (Keeps log.run first log.flushed groups base) old new
  place_crash crash =
      meanwhile (λ x. IsStagedHonestly x staged.batch) (λ x. KeepsPages x staged.batch) (Keeps log.run first log.flushed groups base)
      (λ s. not_each_log (λ x. KeepsPages x staged.batch) s (λ x p. p.log_is)) old new HeldWay way_by
      (λ x b s known way p. place_keeps first groups base log staged x b s way.logged way.way p)
      crash

-- ---- what is known of an answer

-- the pool is as it was
pub none_home : (pool : PoolView) (past : Past) → Now (AreHome pool pool) past
none_home pool past s ticks is page dirty clean = let wrong : true ≡ false = sym dirty ∙ clean in absurd cc

pub all_placed : (more : Bool) (old placed count : ℕ) → more ≡ false → (IsTrue more ↔ (placed < count)) → placed ≡ old + 1 → old < count
    → placed ≡ count
all_placed more old placed count none is next within = ⊎_elim
    (λ (below : placed < count). let wrong : IsTrue more = is.1 below in absurd (cc))
    (λ (from : count ≤ placed). omega (arith, from, next, within))
    (cases_lt placed count)
