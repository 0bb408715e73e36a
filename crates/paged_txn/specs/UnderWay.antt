-- What is known of a batch of the flusher between its steps, while mini-transactions go on.
use Rattle.std.specs.Prelude.{◌≡◌, ◌⊎◌, ℕ, ◌+◌, ◌<◌, Bool, true, Option, Some}
use Rattle.store_api.specs.Past.{Past}
use Rattle.stored_pages.specs.Words.{lsn_of}
use Rattle.redo_log.specs.View.{LogView}
use Rattle.buffer_pool.specs.Frames.{PoolView, is_dirty, bytes_of}
use Rattle.mini_txn.specs.View.{body_of}
use Rattle.doublewrite.specs.Batches.{StagedView, IsBatch, page_at, number_at}
use Rattle.flusher.specs.Working.{AreChanged}
use Rattle.paged_txn.specs.View.{place_in}

-- The pages of the batch are from before the log's next group, and those that were placed are read as they were placed. One that
-- has still the LSN with which it was taken is as it was taken; so are all while no group came since the newest of them.
pub record IsUnderWay (pool : PoolView) (log : LogView) (past : Past) (staged : StagedView) : Type 0 where
  pub is_batch : IsBatch staged.batch
  pub some_left : staged.placed < staged.batch.count
  pub earlier : (k : ℕ) → k < staged.batch.count → lsn_of (page_at staged.batch k) < log.next
  pub same : (k : ℕ) → k < staged.batch.count
      → (lsn_of (bytes_of pool (number_at staged.batch k)) ≡ lsn_of (page_at staged.batch k)) ⊎ (lsn_of (page_at staged.batch k) + 1 ≡ log.next)
      → body_of (bytes_of pool (number_at staged.batch k)) ≡ body_of (page_at staged.batch k)
  pub placed : (k : ℕ) → k < staged.placed → place_in past (number_at staged.batch k) ≡ page_at staged.batch k

-- The pages of the batch are changed in the pool. Where the pages are known, changed ones are from before the log's next group.
pub record IsFlushed (known : Bool) (pool : PoolView) (log : LogView) (past : Past) (staged : Option StagedView) : Type 0 where
  pub changed : (under : StagedView) → staged ≡ Some under → AreChanged (Some under) pool
  pub earlier : known ≡ true → (page : ℕ) → is_dirty pool page ≡ true → lsn_of (bytes_of pool page) < log.next
  pub under_way : known ≡ true → (under : StagedView) → staged ≡ Some under → IsUnderWay pool log past under
