-- How a page comes into the pool, and why it doesn't.
use Rattle.std.specs.Prelude.{◌≡◌, ℕ, ◌*◌, Bool, List, ◌++◌, take, drop, replicate, Some, None}
use Rattle.store_api.specs.Areas.{Within, Looked}
use Rattle.store_api.specs.declared.disk.Area.TheVariants.{Pages}
use Rattle.store_api.specs.Causes.{Rose}
use Rattle.store_api.specs.Past.{Past, Goes, Now}
use Rattle.stored_pages.specs.declared.layout.TheConstants.{PAGE}
use Rattle.page_format.specs.Refused.{IsRefused}
use Rattle.page_format.specs.Shape.{IsPage}
use Rattle.buffer_pool.specs.declared.fixing.FixBad.{FixBad}
use Rattle.buffer_pool.specs.declared.fixing.FixBad.TheVariants.{Failed, Again, Bad}
use Rattle.buffer_pool.specs.declared.frame.Content.TheVariants.{Clean}
use Rattle.buffer_pool.specs.Frames.{PoolView, next_idle, moved}

-- the bytes of a page's place, with zeros past the end of the area
abbrev pub page_in : ℕ → List ℕ → List ℕ
page_in page area = take PAGE (drop (PAGE * page) area ++ replicate PAGE 0)

-- the disk was looked at once, in its pages
abbrev pub Looks : Past → Past → Type 0
Looks before now = (ok : Bool) × Goes (Within Pages (Looked ok)) before now

-- Why no page was read: the disk has failed, or what stands there is no such page.
abbrev pub IsReadBad : ℕ → Past → Past → FixBad → Type 0
IsReadBad page before now Failed = Rose before.faults now.faults
IsReadBad page before now Again = ⊥
IsReadBad page before now (Bad why) = Now (λ s. IsRefused page (page_in page s.pages.seen) why) before

-- The page was read into the frame that goes next, and is fixed once.
pub record IsBrought (page : ℕ) (before : Past) (old new : PoolView) : Type 0 where
  pub from : ℕ
  pub from_is : next_idle old ≡ Some from
  pub bytes : List ℕ
  pub is_page : IsPage page bytes
  pub read : Now (λ s. bytes ≡ page_in page s.pages.seen) before
  pub moved_is : new ≡ moved from page (record { bytes = bytes; content = Clean; fixes = 1 }) old

-- Why a page that isn't in the pool isn't fixed: no frame is idle, so that the disk wasn't asked; or it wasn't read.
abbrev pub IsFixBad : ℕ → PoolView → Past → Past → FixBad → Type 0
IsFixBad page pool before now Failed = Rose before.faults now.faults
IsFixBad page pool before now Again = (next_idle pool ≡ None) × (now ≡ before)
IsFixBad page pool before now (Bad why) = Now (λ s. IsRefused page (page_in page s.pages.seen) why) before
