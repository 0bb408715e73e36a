-- What a flusher has under way between its steps.
use Rattle.std.specs.Prelude.{◌≡◌, ℕ, ◌+◌, ◌<◌, ◌≤◌, true, false, Option, Some, None}
use Rattle.buffer_pool.specs.Frames.{PoolView, is_dirty}
use Rattle.redo_log.specs.View.{LogView}
use Rattle.doublewrite.specs.Batches.{StagedView, IsBatch, number_at}
use Rattle.flusher.specs.declared.work.Work.{Work}
use Rattle.flusher.specs.declared.work.Work.TheVariants.{Free, Placing, Changing}
use Rattle.flusher.specs.Gathering.{Gathers}

abbrev pub staged_of : Work → Option StagedView
staged_of (Free batch) = None
staged_of (Placing staged) = Some staged
staged_of Changing = None

abbrev pub IsWork : Work → Type 0
IsWork (Free batch) = batch.count ≡ 0
IsWork (Placing staged) = staged.placed < staged.batch.count
IsWork Changing = ⊥

-- no batch is under way, and no page is changed
pub record IsAtRest (staged : Option StagedView) (pool : PoolView) : Type 0 where
  pub none : staged ≡ None
  pub clean : (page : ℕ) → is_dirty pool page ≡ false

-- The batch has changed pages of the pool, as they are there, and none of them is placed yet.
pub record HasGathered (pool : PoolView) (staged : StagedView) : Type 0 where
  pub none_placed : staged.placed ≡ 0
  pub some : 0 < staged.batch.count
  pub is_batch : IsBatch staged.batch
  pub upto : ℕ
  pub gathers : Gathers upto pool staged.batch

-- a batch of changed pages is staged
abbrev pub IsBegun : PoolView → Option StagedView → Type 0
IsBegun pool None = ⊥
IsBegun pool (Some staged) = HasGathered pool staged

-- one page more of the batch is placed, and if it was the last one the batch is no more under way
abbrev pub GoesOn : StagedView → Option StagedView → Type 0
GoesOn old None = old.placed + 1 ≡ old.batch.count
GoesOn old (Some new) = (new.batch ≡ old.batch) × (new.placed ≡ old.placed + 1) × (new.placed < new.batch.count)

-- a batch of changed pages is staged, or one page more of the batch under way is placed
abbrev pub Advances : PoolView → Option StagedView → Option StagedView → Type 0
Advances pool None new = IsBegun pool new
Advances pool (Some staged) new = GoesOn staged new

-- each page of the batch under way is changed in the pool
abbrev pub AreChanged : Option StagedView → PoolView → Type 0
AreChanged None pool = Unit {0}
AreChanged (Some staged) pool = (k : ℕ) → k < staged.batch.count → is_dirty pool (number_at staged.batch k) ≡ true

-- The log may be flushed further. Nothing is appended.
pub record KeepsLog (old new : LogView) : Type 0 where
  pub run : new.run ≡ old.run
  pub next : new.next ≡ old.next
  pub flushed : old.flushed ≤ new.flushed
  pub spare : old.spare ≤ new.spare
