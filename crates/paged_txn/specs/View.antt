-- What the pages are to a mini-transaction over a pool and a disk: those of the pool as they stand there, the others as the disk has them.
use Rattle.std.specs.Prelude.{◌≡◌, ℕ, ◌+◌, ◌-◌, ◌^◌, ◌<◌, ◌≤◌, Bool, true, false, ◌==◌, ◌&&◌, nat_lt, if◌then◌else◌, List, [], length, drop, Option, Some, None}
use Rattle.std.specs.Prelude.{is_some}
use Rattle.std.specs.Option.{option_map_or}
use Rattle.sum64.specs.Fnv.{fnv_of}
use Rattle.store_api.specs.Past.{Past}
use Rattle.stored_pages.specs.declared.layout.TheConstants.{PAGE_COUNT}
use Rattle.stored_pages.specs.Words.{u32_at, u64_at, number_of}
use Rattle.log_format.specs.declared.group.Record.{Record}
use Rattle.buffer_pool.specs.declared.frame.Content.{Content}
use Rattle.buffer_pool.specs.declared.frame.Content.TheVariants.{Empty, New, Clean, Dirty}
use Rattle.buffer_pool.specs.Fixing.{page_in}
use Rattle.buffer_pool.specs.Frames.{FrameView, PoolView, slot_of, is_standing, bytes_of, next_idle, holds_page, is_written}
use Rattle.mtr.specs.Seen.{MtrState, is_in}
use Rattle.mini_txn.specs.declared.dealt.Entry.{Entry}
use Rattle.mini_txn.specs.Dealt.{copy_of, pages_of}
use Rattle.mini_txn.specs.Edits.{blank, edited, spare_of}
use Rattle.mini_txn.specs.View.{body_of, at_hand, AreFramed, IsReadable}

-- ---- what the disk has

-- a page's sum and number are right; its records aren't looked at, since a page may be freed and zeros then
unfoldable pub is_good : ℕ → List ℕ → Bool
is_good page bytes = u64_at 0 bytes == fnv_of (drop 8 bytes) && number_of bytes == page

-- what a read of the page's place gives, where the disk tells it
unfoldable pub place_in : Past → ℕ → List ℕ
place_in past page = option_map_or (λ s. page_in page s.pages.seen) (past.state_at past.moment) []

-- the disk tells what it holds
unfoldable pub tells : Past → Bool
tells past = nat_lt past.moment (2 ^ 64 - 1) && is_some (past.state_at past.moment)

-- the page can be read from its place
abbrev pub can_be_read : ℕ → ℕ → List ℕ → Bool
can_be_read count page place = nat_lt page count && is_good page place

-- ---- what stands in a slot, before a page that can be read or not

abbrev pub holds : Option FrameView → Bool
holds slot = option_map_or holds_page slot false

abbrev pub stands : Option FrameView → Bool
stands slot = option_map_or (λ (frame : FrameView). is_written frame.content) slot false

abbrev pub fixes_in : Option FrameView → ℕ
fixes_in slot = option_map_or (λ (frame : FrameView). frame.fixes) slot 0

abbrev pub bytes_in : Option FrameView → List ℕ
bytes_in slot = option_map_or (λ (frame : FrameView). frame.bytes) slot []

-- the page is on the disk as it is in the frame
abbrev pub is_clean : Content → Bool
is_clean Empty = false
is_clean New = false
is_clean Clean = true
is_clean Dirty = false

abbrev pub is_clean_in : Option FrameView → Bool
is_clean_in slot = option_map_or (λ (frame : FrameView). is_clean frame.content) slot false

abbrev pub standing_by : Option FrameView → Bool → List ℕ → List ℕ
standing_by slot readable place = if stands slot then body_of (bytes_in slot) else (if readable then body_of place else blank)

abbrev pub fault_by : Option FrameView → Bool → Option ℕ
fault_by slot readable = if stands slot then None else (if readable then None else Some 0)

-- ---- the pages

-- the page as it stands for everybody: as in the pool, or as on the disk, or zeros where it can't be read there
abbrev pub standing_in : PoolView → Past → ℕ → List ℕ
standing_in pool past page = standing_by (slot_of pool page) (can_be_read (length pool.slots) page (place_in past page)) (place_in past page)

-- the page as the mini-transaction sees it
abbrev pub seen_in : PoolView → Past → List Entry → ℕ → List ℕ
seen_in pool past dealt page = option_map_or body_of (copy_of dealt page) (standing_in pool past page)

abbrev pub fault_in : PoolView → Past → ℕ → Option ℕ
fault_in pool past page = fault_by (slot_of pool page) (can_be_read (length pool.slots) page (place_in past page))

-- the pages are known: no read has failed, and the disk tells what it holds
abbrev pub is_known : Bool → Past → Bool
is_known told past = told && tells past

-- a disk that tells no more counts as one that has failed
abbrev pub faults_of : Past → ℕ
faults_of past = past.faults + (if tells past then 0 else 1)

abbrev pub state_of : PoolView → Past → List Entry → List Record → Bool → MtrState
state_of pool past dealt records told = record {
  told = is_known told past;
  standing = standing_in pool past;
  seen = seen_in pool past dealt;
  fault = fault_in pool past;
  visited = pages_of dealt;
  pooled = at_hand pool dealt;
  has_frame = is_some (next_idle pool);
  spare = spare_of records;
  whole = 131072;
  faults = faults_of past;
}

-- ---- between two calls

-- A frame: its page is fixed once while it is dealt with, and else not at all. A clean one has its page as the disk has it.
pub record IsFrame (known : Bool) (page : ℕ) (place : List ℕ) (dealt : Bool) (slot : Option FrameView) : Type 0 where
  pub fixes : fixes_in slot ≡ (if dealt && holds slot then 1 else 0)
  pub written : dealt ≡ false → holds slot ≡ true → stands slot ≡ true
  pub kept : known ≡ true → is_clean_in slot ≡ true → (is_good page place ≡ true) × (body_of (bytes_in slot) ≡ body_of place)

-- Each copy has a frame, and page 0 counts no more pages than the pool may hold.
pub record AreCounted (pool : PoolView) (past : Past) (dealt : List Entry) : Type 0 where
  pub framed : AreFramed pool dealt
  pub seen : u32_at PAGE_COUNT (seen_in pool past dealt 0) ≤ length pool.slots
  pub standing : u32_at PAGE_COUNT (standing_in pool past 0) ≤ length pool.slots

-- a page dealt with is this one, where it stands in the pool; another may be anything
abbrev pub MayStand : PoolView → List Entry → ℕ → List ℕ → Type 0
MayStand pool dealt page before = is_in page (pages_of dealt) ≡ true → is_standing pool page ≡ true → before ≡ body_of (bytes_of pool page)

-- The mini-transaction sees each page as the records that stand make it.
pub record IsPaged (pool : PoolView) (past : Past) (dealt : List Entry) (records : List Record) (told : Bool) : Type 0 where
  pub frames : (page : ℕ) → IsFrame (is_known told past) page (place_in past page) (is_in page (pages_of dealt)) (slot_of pool page)
  pub readable : (page : ℕ) → is_in page (pages_of dealt) ≡ true → IsReadable pool dealt page
  pub edits : (page : ℕ) (before : List ℕ) → MayStand pool dealt page before → option_map_or body_of (copy_of dealt page) before ≡ edited page records before
  pub counted : is_known told past ≡ true → AreCounted pool past dealt

-- ---- calls

-- no page is in the pool
pub record HasNoPage (pages : ℕ) (pool : PoolView) : Type 0 where
  pub slots : length pool.slots ≡ pages
  pub none : (page : ℕ) → (holds (slot_of pool page) ≡ false) × (fixes_in (slot_of pool page) ≡ 0)

-- the first so many slots have frames, and none has a page
pub record HasFrames (pages count : ℕ) (pool : PoolView) : Type 0 where
  pub empty : HasNoPage pages pool
  pub frames : (page : ℕ) → page < count → page < pages → is_some (slot_of pool page) ≡ true

-- Nothing was put yet. Each page stands as on the disk.
pub record Begins (pages : ℕ) (before now : Past) (pool : PoolView) (told : Bool) : Type 0 where
  pub slots : length pool.slots ≡ pages
  pub standing : is_known told now ≡ true → (page : ℕ)
      → standing_in pool now page ≡ standing_by None (can_be_read pages page (place_in before page)) (place_in before page)
