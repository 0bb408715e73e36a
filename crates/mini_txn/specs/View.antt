-- What contracts see of a mini-transaction, and what the pages are to it.
use Rattle.std.specs.Prelude.{◌≡◌, ◌≢◌, ◌⊎◌, ℕ, ◌<◌, ◌≤◌, Bool, true, false, ◌||◌, if◌then◌else◌, List, [], length, take, drop, ◌++◌, replicate, Option, Some}
use Rattle.std.specs.Prelude.{None, is_some, IsTrue}
use Rattle.std.specs.Option.{option_map_or}
use Rattle.stored_pages.specs.declared.layout.TheConstants.{PAGE_COUNT}
use Rattle.schema_codec.specs.Numbers.{u32_bytes, u64_bytes}
use Rattle.stored_pages.specs.Words.{u32_at, number_of, lsn_of}
use Rattle.log_format.specs.declared.group.Record.{Record}
use Rattle.redo_log.specs.View.{LogView}
use Rattle.buffer_pool.specs.declared.frame.Content.TheVariants.{Dirty}
use Rattle.buffer_pool.specs.Frames.{FrameView, PoolView, slot_of, is_pooled, is_standing, bytes_of, fixes_of, next_idle}
use Rattle.mtr.specs.Seen.{MtrState, is_in, visit, with_bytes}
use Rattle.mini_txn.specs.declared.dealt.Entry.{Entry}
use Rattle.mini_txn.specs.Dealt.{copy_of, pages_of}
use Rattle.mini_txn.specs.Edits.{blank, edited, spare_of}

-- the pool and the log, the pages dealt with, the records that stand, and whether the pages are told
pub record MiniView : Type 0 where
  pub pool : PoolView
  pub log : LogView
  pub dealt : List Entry
  pub records : List Record
  pub told : Bool

-- a page's bytes with zeros in place of its sum, number and LSN
unfoldable pub body_of : List ℕ → List ℕ
body_of bytes = replicate 20 0 ++ drop 20 bytes

-- the page as it stands for everybody: zeros where nobody has written it
abbrev pub standing_in : PoolView → ℕ → List ℕ
standing_in pool page = if is_standing pool page then body_of (bytes_of pool page) else blank

-- the page as the mini-transaction sees it
abbrev pub seen_in : PoolView → List Entry → ℕ → List ℕ
seen_in pool dealt page = option_map_or body_of (copy_of dealt page) (standing_in pool page)

-- a page that nobody has written is none that can be read
abbrev pub fault_in : PoolView → ℕ → Option ℕ
fault_in pool page = if is_standing pool page then None else Some 0

abbrev pub at_hand : PoolView → List Entry → ℕ → Bool
at_hand pool dealt page = is_pooled pool page || is_in page (pages_of dealt)

abbrev pub state_of : MiniView → MtrState
state_of m = record {
  told = m.told;
  standing = standing_in m.pool;
  seen = seen_in m.pool m.dealt;
  fault = fault_in m.pool;
  visited = pages_of m.dealt;
  pooled = at_hand m.pool m.dealt;
  has_frame = is_some (next_idle m.pool);
  spare = spare_of m.records;
  whole = 131072;
  faults = 0;
}

-- each page in the pool is fixed, so that none is given up
abbrev pub IsResident : PoolView → Type 0
IsResident pool = (page : ℕ) → is_pooled pool page ≡ true → 0 < fixes_of pool page

-- each page with a copy is in the pool
abbrev pub AreFramed : PoolView → List Entry → Type 0
AreFramed pool dealt = (page : ℕ) → is_some (copy_of dealt page) ≡ true → is_pooled pool page ≡ true

-- The pages are told, as long as page 0 counts no more of them than the pool may hold.
pub record AreTold (pool : PoolView) (dealt : List Entry) : Type 0 where
  pub framed : AreFramed pool dealt
  pub seen : u32_at PAGE_COUNT (seen_in pool dealt 0) ≤ length pool.slots
  pub standing : u32_at PAGE_COUNT (standing_in pool 0) ≤ length pool.slots

-- the page has a copy, or stands
abbrev pub IsReadable : PoolView → List Entry → ℕ → Type 0
IsReadable pool dealt page = copy_of dealt page ≡ None → is_standing pool page ≡ true

-- The mini-transaction sees each page as the records that stand make it.
pub record IsMini (pool : PoolView) (dealt : List Entry) (records : List Record) (told : Bool) : Type 0 where
  pub resident : IsResident pool
  pub readable : (page : ℕ) → is_in page (pages_of dealt) ≡ true → IsReadable pool dealt page
  pub edits : (page : ℕ) → seen_in pool dealt page ≡ edited page records (standing_in pool page)
  pub told_so : told ≡ true → AreTold pool dealt

-- ---- what calls make of the pool

-- All pages are fixed, and stand as before.
pub record KeepsPages (old new : PoolView) : Type 0 where
  pub resident : IsResident new
  pub slots : length new.slots ≡ length old.slots
  pub standing : (page : ℕ) → is_standing new page ≡ is_standing old page
  pub pages : (page : ℕ) → standing_in new page ≡ standing_in old page

-- The page is fixed if it is there. All pages stand as before.
pub record FixesPage (page : ℕ) (old new : PoolView) : Type 0 where
  pub slots : length new.slots ≡ length old.slots
  pub standing : (other : ℕ) → is_standing new other ≡ is_standing old other
  pub pages : (other : ℕ) → standing_in new other ≡ standing_in old other
  pub here : is_pooled new page ≡ true → 0 < fixes_of new page
  pub elsewhere : (other : ℕ) → other ≢ page → slot_of new other ≡ slot_of old other

-- The page has a frame, if there was one for it.
pub record TakesFrame (page : ℕ) (old new : PoolView) : Type 0 where
  pub keeps : KeepsPages old new
  pub pooled : (other : ℕ) → is_pooled old other ≡ true → is_pooled new other ≡ true
  pub here : page < length old.slots → is_some (next_idle old) ≡ true → is_pooled new page ≡ true

-- the frame holds the page as the group of that LSN has left it
abbrev pub IsStamped : ℕ → ℕ → Option FrameView → Type 0
IsStamped page lsn None = ⊥
IsStamped page lsn (Some frame) = (frame.content ≡ Dirty) × (number_of frame.bytes ≡ page) × (lsn_of frame.bytes ≡ lsn)

-- a page that has a copy, or stands
abbrev pub shows : PoolView → List Entry → ℕ → Bool
shows pool dealt page = is_some (copy_of dealt page) || is_standing pool page

-- each page dealt with that is in the pool is fixed
abbrev pub AreHeld : PoolView → List Entry → Type 0
AreHeld pool dealt = (page : ℕ) → is_in page (pages_of dealt) ≡ true → is_pooled pool page ≡ true → 0 < fixes_of pool page

-- Some copies stand in the pool now, with that LSN, and each page is seen as before.
pub record Places (lsn : ℕ) (old_pool : PoolView) (old : List Entry) (new_pool : PoolView) (new : List Entry) : Type 0 where
  pub pooled : (page : ℕ) → is_pooled new_pool page ≡ is_pooled old_pool page
  pub fixes : (page : ℕ) → fixes_of new_pool page ≡ fixes_of old_pool page
  pub slots : length new_pool.slots ≡ length old_pool.slots
  pub framed : AreFramed old_pool old → AreFramed new_pool new
  pub seen : AreFramed old_pool old → (page : ℕ) → seen_in new_pool new page ≡ seen_in old_pool old page
  pub shown : AreFramed old_pool old → (page : ℕ) → shows new_pool new page ≡ shows old_pool old page
  pub slot_is : (page : ℕ) → ((slot_of new_pool page ≡ slot_of old_pool page)
      × ((copy_of new page ≡ copy_of old page) ⊎ (is_pooled old_pool page ≡ false))) ⊎ IsStamped page lsn (slot_of new_pool page)
  pub frames : AreFramed old_pool old → (page : ℕ) → ((copy_of new page ≡ copy_of old page) × (slot_of new_pool page ≡ slot_of old_pool page))
      ⊎ IsStamped page lsn (slot_of new_pool page)

-- a page's bytes with its number and the LSN of the group that changed it
abbrev pub stamped : ℕ → ℕ → List ℕ → List ℕ
stamped page lsn bytes = take 8 bytes ++ (u32_bytes page ++ (u64_bytes lsn ++ drop 20 bytes))

-- ---- what calls make of the copies

-- Bytes were put in the page's copy.
pub record Writes (page at : ℕ) (piece : List ℕ) (pool : PoolView) (old new : List Entry) : Type 0 where
  pub pages : pages_of new ≡ pages_of old
  pub copied : is_some (copy_of new page) ≡ true
  pub here : seen_in pool new page ≡ with_bytes at piece (seen_in pool old page)
  pub elsewhere : (other : ℕ) → other ≢ page → copy_of new other ≡ copy_of old other
  pub framed : AreFramed pool old → AreFramed pool new

-- The page has a copy of zeros, and a frame if there was one for it.
pub record Blanks (page : ℕ) (old_pool : PoolView) (old : List Entry) (new_pool : PoolView) (new : List Entry) : Type 0 where
  pub frame : TakesFrame page old_pool new_pool
  pub pages : pages_of new ≡ visit page (pages_of old)
  pub here : copy_of new page ≡ Some blank
  pub elsewhere : (other : ℕ) → other ≢ page → copy_of new other ≡ copy_of old other

-- A page without a copy has its frame as before, and one with a copy has it in its frame, with the LSN of the group.
abbrev pub IsPut : MiniView → MiniView → ℕ → ℕ → Type 0
IsPut old new lsn page = ((copy_of old.dealt page ≡ None) × (slot_of new.pool page ≡ slot_of old.pool page)) ⊎ IsStamped page lsn (slot_of new.pool page)

-- A page was looked at: nothing is copied, and nothing else has changed but the list of the pages dealt with.
pub record IsRead (old new : MiniView) : Type 0 where
  pub copies : (page : ℕ) → copy_of new.dealt page ≡ copy_of old.dealt page
  pub pool_is : new.pool ≡ old.pool
  pub log_is : new.log ≡ old.log
  pub records_are : new.records ≡ old.records
  pub told_is : new.told ≡ old.told

-- ---- the beginning

-- Nothing was put yet. The pages stand as in the pool, and are told if page 0 counts no more than the pool may hold.
pub record Begins (pool : PoolView) (log : LogView) (m : MiniView) : Type 0 where
  pub slots : length m.pool.slots ≡ length pool.slots
  pub standing : (page : ℕ) → standing_in m.pool page ≡ standing_in pool page
  pub log_is : m.log ≡ log
  pub dealt_is : m.dealt ≡ []
  pub records_are : m.records ≡ []
  pub told : u32_at PAGE_COUNT (standing_in pool 0) ≤ length pool.slots → IsTrue m.told

-- These are the page's bytes with its number and that LSN.
pub record IsStampOf (page lsn : ℕ) (bytes placed : List ℕ) : Type 0 where
  pub number : number_of placed ≡ page
  pub lsn_is : lsn_of placed ≡ lsn
  pub behind : drop 20 placed ≡ drop 20 bytes
