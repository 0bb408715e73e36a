-- What contracts see of a batch of pages, and of one whose copies are staged.
use Rattle.std.specs.Prelude.{◌≡◌, ◌≢◌, ℕ, ◌*◌, ◌<◌, ◌≤◌, Option, Some, None, List, length}
use Rattle.store_api.specs.Areas.{PassesSum, piece}
use Rattle.stored_pages.specs.declared.layout.TheConstants.{PAGE, SLOTS, DOUBLE}
use Rattle.stored_pages.specs.Words.{number_of}

-- how many pages, and their bytes one behind the other
pub record BatchView : Type 0 where
  pub count : ℕ
  pub bytes : List ℕ

-- a batch, and how many of its pages were written in place
pub record StagedView : Type 0 where
  pub batch : BatchView
  pub placed : ℕ

abbrev pub page_at : BatchView → ℕ → List ℕ
page_at batch k = piece PAGE k batch.bytes

abbrev pub number_at : BatchView → ℕ → ℕ
number_at batch k = number_of (page_at batch k)

-- up to 64 sealed pages of distinct numbers
pub record IsBatch (batch : BatchView) : Type 0 where
  pub few : batch.count ≤ SLOTS
  pub whole : length batch.bytes ≡ PAGE * batch.count
  pub sealed : (k : ℕ) → k < batch.count → PassesSum (page_at batch k)
  pub distinct : (j k : ℕ) → j < k → k < batch.count → number_at batch j ≢ number_at batch k

-- the batch has this content for that page
pub record IsInBatch (batch : BatchView) (number : ℕ) (bytes : List ℕ) : Type 0 where
  pub slot : ℕ
  pub below : slot < batch.count
  pub page : page_at batch slot ≡ bytes
  pub number_is : number_of bytes ≡ number

abbrev pub IsInBatchToo : BatchView → ℕ → Option (List ℕ) → Type 0
IsInBatchToo batch number (Some bytes) = IsInBatch batch number bytes
IsInBatchToo batch number None = ⊥

-- a batch, in a vector that has room for all its pages
pub record HasRoom (batch : BatchView) (capacity : ℕ) : Type 0 where
  pub is_batch : IsBatch batch
  pub room : DOUBLE ≤ capacity
