-- What contracts see of a pool: of each page of the file the frame that stands in its slot.
use Rattle.std.specs.Prelude.{◌≡◌, ℕ, ◌+◌, ◌-◌, ◌^◌, ◌<◌, Bool, true, false, ◌==◌, ◌&&◌, if◌then◌else◌, List, [], length, slice_index_or, slice_set, Option, Some, None, option_map}
use Rattle.std.specs.List.{list_any, swap}
use Rattle.std.specs.Option.{option_map_or}
use Rattle.stored_pages.specs.Words.{lsn_of}
use Rattle.buffer_pool.specs.declared.frame.Content.{Content}
use Rattle.buffer_pool.specs.declared.frame.Content.TheVariants.{Empty, New, Clean, Dirty}
use Rattle.buffer_pool.specs.Order.{used, last_where}

-- a frame: its bytes, what they are, and how often the page is fixed
pub record FrameView : Type 0 where
  pub bytes : List ℕ
  pub content : Content
  pub fixes : ℕ

-- the slot of each page, and the pages, the one that was fixed last first
pub record PoolView : Type 0 where
  pub slots : List (Option FrameView)
  pub order : List ℕ

abbrev pub is_page : Content → Bool
is_page Empty = false
is_page New = true
is_page Clean = true
is_page Dirty = true

abbrev pub holds_page : FrameView → Bool
holds_page frame = is_page frame.content

-- the bytes are on the disk too, or nobody's
abbrev pub is_kept : Content → Bool
is_kept Empty = true
is_kept New = false
is_kept Clean = true
is_kept Dirty = false

abbrev pub is_changed : Content → Bool
is_changed Empty = false
is_changed New = false
is_changed Clean = false
is_changed Dirty = true

-- the bytes are a page that somebody has written
abbrev pub is_written : Content → Bool
is_written Empty = false
is_written New = false
is_written Clean = true
is_written Dirty = true

-- it can be given to another page: nobody has fixed it, and nothing is lost with it
abbrev pub is_idle : FrameView → Bool
is_idle frame = frame.fixes == 0 && is_kept frame.content

abbrev pub slot_of : PoolView → ℕ → Option FrameView
slot_of pool page = slice_index_or pool.slots page None

-- the page is in the pool
abbrev pub is_pooled : PoolView → ℕ → Bool
is_pooled pool page = option_map_or holds_page (slot_of pool page) false

-- it was changed, and the disk doesn't have it so
abbrev pub is_dirty : PoolView → ℕ → Bool
is_dirty pool page = option_map_or (λ frame. is_changed frame.content) (slot_of pool page) false

-- the page is in the pool, and isn't a new one that nobody has written yet
abbrev pub is_standing : PoolView → ℕ → Bool
is_standing pool page = option_map_or (λ frame. is_written frame.content) (slot_of pool page) false

abbrev pub bytes_of : PoolView → ℕ → List ℕ
bytes_of pool page = option_map_or (λ frame. frame.bytes) (slot_of pool page) []

abbrev pub fixes_of : PoolView → ℕ → ℕ
fixes_of pool page = option_map_or (λ frame. frame.fixes) (slot_of pool page) 0

abbrev pub is_idle_at : List (Option FrameView) → ℕ → Bool
is_idle_at slots page = option_map_or is_idle (slice_index_or slots page None) false

-- the slot whose frame goes next: the idle one that was fixed longest ago
abbrev pub next_idle : PoolView → Option ℕ
next_idle pool = last_where (is_idle_at pool.slots) pool.order

-- something else in the frame of a page
abbrev pub at_slot : ℕ → (FrameView → FrameView) → PoolView → PoolView
at_slot page edit pool = record { slots = slice_set pool.slots page (option_map edit (slot_of pool page)); order = pool.order }

-- the page stands first in the order
abbrev pub with_used : ℕ → PoolView → PoolView
with_used page pool = record { slots = pool.slots; order = used page pool.order }

-- two slots are exchanged, so that the page has the frame of the other one, and then this in it
abbrev pub moved : ℕ → ℕ → FrameView → PoolView → PoolView
moved from page frame pool = with_used page (record { slots = slice_set (swap pool.slots from page) page (Some frame); order = pool.order })

abbrev pub marked : Content → ℕ → FrameView → FrameView
marked content fixes frame = record { bytes = frame.bytes; content = content; fixes = fixes }

-- fixed once more
abbrev pub fixed : FrameView → FrameView
fixed frame = marked frame.content (frame.fixes + 1) frame

-- a new page goes with its last fix
abbrev pub content_after : Content → ℕ → Content
content_after New fixes = if fixes == 1 then Empty else New
content_after Empty fixes = Empty
content_after Clean fixes = Clean
content_after Dirty fixes = Dirty

-- fixed once less
abbrev pub unfixed : FrameView → FrameView
unfixed frame = marked (content_after frame.content frame.fixes) (frame.fixes - 1) frame

-- other bytes, which the disk doesn't have
abbrev pub changed : List ℕ → FrameView → FrameView
changed bytes frame = record { bytes = bytes; content = Dirty; fixes = frame.fixes }

-- the page is on the disk as it was with that LSN
abbrev pub placed : ℕ → FrameView → FrameView
placed lsn frame = marked (if is_changed frame.content && lsn_of frame.bytes == lsn then Clean else frame.content) frame.fixes frame

-- an empty frame stands in the page's slot
pub record HasOneMore (page : ℕ) (old new : PoolView) : Type 0 where
  pub frame : FrameView
  pub content : frame.content ≡ Empty
  pub fixes : frame.fixes ≡ 0
  pub new_is : new ≡ record { slots = slice_set old.slots page (Some frame); order = old.order }

-- each page of the file stands in the order
pub record IsPool (slots : List (Option FrameView)) (order : List ℕ) : Type 0 where
  pub known : (page : ℕ) → page < length slots → list_any (λ other. page == other) order ≡ true
  pub few : length slots < 2 ^ 32
