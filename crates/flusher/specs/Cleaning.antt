-- What a pool's pages are once a batch is in its places, and how much is left to be done.
use Rattle.std.specs.Prelude.{◌≡◌, ℕ, zero, suc, ◌+◌, ◌-◌, Bool, false, not, ◌&&◌}
use Rattle.std.specs.Prelude.{◌||◌, ◌==◌, if◌then◌else◌, Option, Some, None, option_map, List, [], ◌∷◌, length}
use Rattle.stored_pages.specs.Words.{number_of, lsn_of}
use Rattle.buffer_pool.specs.declared.frame.Content.TheVariants.{Clean}
use Rattle.buffer_pool.specs.Frames.{FrameView, PoolView, slot_of, is_pooled, is_dirty, is_standing, is_changed, bytes_of, fixes_of, marked}
use Rattle.doublewrite.specs.Batches.{BatchView, StagedView, page_at, number_at}

-- one of the first so many pages of the batch has that number and that LSN
abbrev pub is_among : BatchView → ℕ → ℕ → ℕ → Bool
is_among batch zero page lsn = false
is_among batch (suc k) page lsn = (number_at batch k == page && lsn == lsn_of (page_at batch k)) || is_among batch k page lsn

-- the frame, clean if its page was changed last by a group whose LSN passes
abbrev pub cleaned : (ℕ → Bool) → FrameView → FrameView
cleaned test frame = marked (if is_changed frame.content && test (lsn_of frame.bytes) then Clean else frame.content) frame.fixes frame

-- The pages that pass with their LSN are clean. Nothing else of the pool has changed.
pub record CleansBy (test : ℕ → ℕ → Bool) (old new : PoolView) : Type 0 where
  pub order : new.order ≡ old.order
  pub slots : length new.slots ≡ length old.slots
  pub frames : (page : ℕ) → slot_of new page ≡ option_map (cleaned (test page)) (slot_of old page)

-- the first so many pages of the batch are clean, but for those that were changed since
abbrev pub Cleans : BatchView → ℕ → PoolView → PoolView → Type 0
Cleans batch count old new = CleansBy (is_among batch count) old new

-- the page with these bytes is clean, unless it was changed since
abbrev pub CleansOne : List ℕ → PoolView → PoolView → Type 0
CleansOne bytes old new = CleansBy (λ page lsn. number_of bytes == page && lsn == lsn_of bytes) old new

-- the batch that was under way, if it is no more
abbrev pub finished : Option StagedView → Option StagedView → Option BatchView
finished None new = None
finished (Some staged) None = Some staged.batch
finished (Some staged) (Some new) = None

-- the pool is as it was, or the pages of a finished batch are clean
abbrev pub Settles : Option BatchView → PoolView → PoolView → Type 0
Settles None old new = new ≡ old
Settles (Some batch) old new = Cleans batch batch.count old new

-- Everybody sees the same pages: only which of them are changed may differ.
pub record HasSamePages (old new : PoolView) : Type 0 where
  pub order : new.order ≡ old.order
  pub slots : length new.slots ≡ length old.slots
  pub pooled : (page : ℕ) → is_pooled new page ≡ is_pooled old page
  pub standing : (page : ℕ) → is_standing new page ≡ is_standing old page
  pub bytes : (page : ℕ) → bytes_of new page ≡ bytes_of old page
  pub fixes : (page : ℕ) → fixes_of new page ≡ fixes_of old page

-- ---- what is left to be done

-- the batch under way has the page with that LSN
abbrev pub is_under_way : Option StagedView → ℕ → ℕ → Bool
is_under_way None page lsn = false
is_under_way (Some staged) page lsn = is_among staged.batch staged.batch.count page lsn

-- the page was changed, and no batch under way has it as it is
abbrev pub waits : Option StagedView → PoolView → ℕ → Bool
waits staged pool page = is_dirty pool page && not (is_under_way staged page (lsn_of (bytes_of pool page)))

-- how many numbers below this one pass
abbrev pub count_below : (ℕ → Bool) → ℕ → ℕ
count_below test zero = 0
count_below test (suc n) = (if test n then 1 else 0) + count_below test n

-- how many pages are left to be placed
abbrev pub left_of : Option StagedView → ℕ
left_of None = 0
left_of (Some staged) = staged.batch.count - staged.placed

-- how many pages wait, and how many of the batch under way are left to be placed
abbrev pub to_go : Option StagedView → PoolView → List ℕ
to_go staged pool = count_below (waits staged pool) (length pool.slots) ∷ left_of staged ∷ []
