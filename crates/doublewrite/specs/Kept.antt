-- What the areas hold before, while and after a batch is staged and placed, and what a crash leaves of each page.
use Rattle.std.specs.Prelude.{◌≡◌, ◌⊎◌, ℕ, ◌+◌, ◌*◌, ◌<◌, ◌≤◌, Option, Some, None, List, [], ◌++◌, take, drop, replicate, All}
use Rattle.store_api.specs.Areas.{Write, Contents, State, Image, IsImage, IsHonest, PassesSum, WasWhole, piece, end_of}
use Rattle.stored_pages.specs.declared.layout.TheConstants.{PAGE, SLOTS}
use Rattle.stored_pages.specs.Words.{lsn_of}
use Rattle.stored_pages.specs.Reading.{IsGoodPage, place_of, IsPageIn}
use Rattle.doublewrite.specs.Batches.{BatchView, StagedView, IsInBatch, IsInBatchToo, page_at, number_at}

-- ---- what may be found in an area

-- a good copy of the page stood in Double at the last sync, or was written whole since
pub record HadCopy (number : ℕ) (double : Contents) (bytes : List ℕ) : Type 0 where
  pub slot : ℕ
  pub below : slot < SLOTS
  pub good : IsGoodPage number bytes
  pub whole : WasWhole double (PAGE * slot) bytes

-- the write leaves the place of that page alone
abbrev pub Spares : ℕ → Write → Type 0
Spares number w = (end_of w ≤ PAGE * number) ⊎ (PAGE * (number + 1) ≤ w.at)

-- every crash leaves the page good in its place: it stood there at the last sync, and nothing was written there since
pub record IsSettled (number : ℕ) (pages : Contents) : Type 0 where
  pub good : IsGoodPage number (place_of number pages.synced)
  pub spared : All (Spares number) pages.writes

-- the k-th page as a read gives it, with zeros past the end
abbrev pub filled : ℕ → List ℕ → List ℕ
filled k area = take PAGE (drop (PAGE * k) area ++ replicate PAGE 0)

-- no page that a read gives passes its sum by chance
abbrev pub HasHonestReads : Contents → Type 0
HasHonestReads c = (k : ℕ) → PassesSum (filled k c.seen) → WasWhole c (PAGE * k) (filled k c.seen)

-- ---- before a batch is staged

-- What a read gives of Pages and Double is no page by chance.
pub record IsReady (s : State) : Type 0 where
  pub read_pages : HasHonestReads s.pages
  pub read_copies : HasHonestReads s.double

-- this state, which is ready
abbrev pub IsReadyAs : State → State → Type 0
IsReadyAs before s = (s ≡ before) × IsReady s

-- The page is good in its place for good, or has no copy in Double. Copies of it there are older than the batch's, or the same.
pub record IsPageReady (batch : BatchView) (s : State) (number : ℕ) : Type 0 where
  pub settled : IsSettled number s.pages ⊎ ((bytes : List ℕ) → HadCopy number s.double bytes → ⊥)
  pub older : (bytes other : List ℕ) → IsInBatch batch number bytes → HadCopy number s.double other → (other ≡ bytes) ⊎ (lsn_of other < lsn_of bytes)

-- The page had this content in its place, whole, at the last sync or by a write since. It had none where its place wasn't good for good.
abbrev pub WasPage : State → ℕ → Option (List ℕ) → Type 0
WasPage s number (Some bytes) = IsGoodPage number bytes × WasWhole s.pages (PAGE * number) bytes
WasPage s number None = IsSettled number s.pages → ⊥

-- ---- at each moment from then on

-- a crash leaves each page that was ready with its old content or with that of the batch
pub record KeepsPages (before : State) (batch : BatchView) (s : State) : Type 0 where
  pub each : (image : Image) → IsImage s image → IsHonest s image → (number : ℕ) (content : Option (List ℕ)) → IsPageReady batch before number
      → IsPageIn image.pages image.double number content → WasPage before number content ⊎ IsInBatchToo batch number content
  pub log_is : s.log ≡ before.log

-- ---- after its copies are synced

-- Double holds the copies for good, and nothing that was written in Pages since is anything but the batch's pages in their places.
pub record IsStaged (before : State) (batch : BatchView) (s : State) : Type 0 where
  pub double : List ℕ
  pub double_is : s.double ≡ record { seen = double; synced = double; writes = [] }
  pub copies : (k : ℕ) → k < batch.count → piece PAGE k double ≡ page_at batch k
  pub others : (number k : ℕ) → batch.count ≤ k → IsGoodPage number (piece PAGE k double) → WasWhole before.double (PAGE * k) (piece PAGE k double)
  pub held : (number : ℕ) (bytes : List ℕ) → IsGoodPage number bytes → WasWhole s.pages (PAGE * number) bytes → IsInBatch batch number bytes ⊎ WasWhole before.pages (PAGE * number) bytes
  pub settled : (number : ℕ) → ((bytes : List ℕ) → IsInBatch batch number bytes → ⊥) → IsSettled number before.pages → IsSettled number s.pages
  pub log_is : s.log ≡ before.log

-- and what a read gives of Pages is honest, so that it may be synced
abbrev pub IsStagedHonestly : State → BatchView → State → Type 0
IsStagedHonestly before batch s = IsStaged before batch s × HasHonestReads s.pages

-- A read gives the first so many pages of the batch in their places.
pub record HasPlaced (staged : StagedView) (s : State) : Type 0 where
  pub each : (k : ℕ) → k < staged.placed → place_of (number_at staged.batch k) s.pages.seen ≡ page_at staged.batch k
  pub synced : staged.placed ≡ staged.batch.count → (s.pages.writes ≡ []) × (s.pages.synced ≡ s.pages.seen)
