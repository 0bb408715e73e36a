-- Which pages of a pool a batch has, and as which bytes.
use Rattle.std.specs.Prelude.{◌≡◌, ℕ, ◌<◌, true, false, List, length, drop}
use Rattle.store_api.specs.Areas.{PassesSum}
use Rattle.stored_pages.specs.Words.{number_of}
use Rattle.buffer_pool.specs.Frames.{PoolView, is_dirty, bytes_of}
use Rattle.doublewrite.specs.Batches.{BatchView, page_at, number_at}
use Rattle.law_logged_pages.specs.Stages.{AreBytes}

-- the page's bytes with its number and a sum that is right
pub record IsSealed (page : ℕ) (old new : List ℕ) : Type 0 where
  pub size : length new ≡ length old
  pub sum : PassesSum new
  pub front : AreBytes 8 new
  pub number_is : number_of new ≡ page
  pub behind : drop 12 new ≡ drop 12 old
  pub same : number_of old ≡ page → drop 8 new ≡ drop 8 old

-- The batch has changed pages of the pool with numbers below this one, sealed. If it has none, no such page was changed.
pub record Gathers (upto : ℕ) (pool : PoolView) (batch : BatchView) : Type 0 where
  pub below : (k : ℕ) → k < batch.count → number_at batch k < upto
  pub dirty : (k : ℕ) → k < batch.count → is_dirty pool (number_at batch k) ≡ true
  pub sealed : (k : ℕ) → k < batch.count → IsSealed (number_at batch k) (bytes_of pool (number_at batch k)) (page_at batch k)
  pub none : batch.count ≡ 0 → (page : ℕ) → page < upto → is_dirty pool page ≡ false
