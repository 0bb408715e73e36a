-- How a page comes into the pool, and why it doesn't.
use Rattle.std.specs.Prelude.{◌≡◌, ◌⊎◌, ℕ, ◌<◌, ◌≤◌, Bool, true, false, List, length, Some, None}
use Rattle.store_api.specs.Areas.{Within, Looked}
use Rattle.store_api.specs.declared.disk.Area.TheVariants.{Pages}
use Rattle.store_api.specs.declared.visits.Visit.{Visit}
use Rattle.store_api.specs.declared.visits.Visit.TheVariants.{Failed, Again, Bad}
use Rattle.store_api.specs.Causes.{Rose}
use Rattle.store_api.specs.Past.{Past, Goes, Now}
use Rattle.buffer_pool.specs.declared.frame.Content.TheVariants.{Clean}
use Rattle.buffer_pool.specs.Fixing.{page_in}
use Rattle.buffer_pool.specs.Frames.{PoolView, next_idle, is_pooled, at_slot, fixed, with_used, moved}
use Rattle.paged_txn.specs.View.{is_good}

-- the disk was looked at once, in its pages
abbrev pub Looks : Bool → Past → Past → Type 0
Looks ok before now = Goes (Within Pages (Looked ok)) before now

-- The page was in the pool.
pub record IsHeld (page : ℕ) (before now : Past) (old new : PoolView) : Type 0 where
  pub within : page < length old.slots
  pub there : is_pooled old page ≡ true
  pub pool_is : new ≡ with_used page (at_slot page fixed old)
  pub past_is : now ≡ before

-- It was read into the frame that goes next.
pub record IsLetIn (page : ℕ) (before now : Past) (old new : PoolView) : Type 0 where
  pub within : page < length old.slots
  pub absent : is_pooled old page ≡ false
  pub from : ℕ
  pub from_is : next_idle old ≡ Some from
  pub bytes : List ℕ
  pub good : is_good page bytes ≡ true
  pub read : Now (λ s. bytes ≡ page_in page s.pages.seen) before
  pub looked : Looks true before now
  pub pool_is : new ≡ moved from page (record { bytes = bytes; content = Clean; fixes = 1 }) old

-- There is no such page, or what stands in its place isn't it.
pub record IsNoPage (page : ℕ) (before now : Past) (old : PoolView) : Type 0 where
  pub absent : is_pooled old page ≡ false
  pub none : ((length old.slots ≤ page) × (now ≡ before)) ⊎ (Looks true before now × Now (λ s. is_good page (page_in page s.pages.seen) ≡ false) before)

-- why it wasn't brought
abbrev pub IsRefused : ℕ → Past → Past → PoolView → Visit → Type 0
IsRefused page before now old Failed = Rose before.faults now.faults × Looks false before now
IsRefused page before now old Again = (is_pooled old page ≡ false) × (next_idle old ≡ None) × (now ≡ before)
IsRefused page before now old (Bad number rule) = (number ≡ page) × (rule ≡ 0) × IsNoPage page before now old

-- the disk hasn't failed
abbrev pub is_no_fault : Visit → Bool
is_no_fault Failed = false
is_no_fault Again = true
is_no_fault (Bad page rule) = true
