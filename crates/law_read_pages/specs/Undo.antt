-- What pages alone are read as: their older versions stand in undo pages, and their open transactions in slots.
-- Recovery is to ask no more than this of pages: nothing that stood in memory alone.
use Rattle.std.specs.Prelude.{◌≡◌, ℕ, zero, suc, ◌+◌, ◌*◌, ◌<◌, Bool, false, ◌==◌, ◌&&◌, ◌||◌, not, if◌then◌else◌, Option, Some, List, length, take, drop}
use Rattle.std.specs.Prelude.{slice_index, nat_lt}
use Rattle.store_api.specs.declared.limits.TheConstants.{MOST_PAGES}
use Rattle.inno_db.specs.Database.{Database}
use Rattle.stored_pages.specs.Words.{u16_at, u32_at, u64_at}
use Rattle.row_versions.specs.declared.kept.Kept.{Kept}
use Rattle.mini_txn.specs.View.{body_of}
use Rattle.mini_txn.specs.Edits.{blank}
use Rattle.law_read_pages.specs.Pages.{StandForDb}

-- the pages of a file, without what a commit and a flush write in front of them
abbrev pub bare_pages : (ℕ → List ℕ) → ℕ → List ℕ
bare_pages pages page = if nat_lt page MOST_PAGES then body_of (pages page) else blank

-- At this place of the page stands the record that keeps this version.
pub record HoldsRecord (page : List ℕ) (at : ℕ) (kept : Kept) : Type 0 where
  pub long : u16_at at page ≡ 7 + length kept.key + length kept.bytes
  pub kind : slice_index page (at + 2) ≡ 2
  pub table : slice_index page (at + 3) ≡ kept.table
  pub key_long : slice_index page (at + 4) ≡ length kept.key
  pub key : take (length kept.key) (drop (at + 5) page) ≡ kept.key
  pub bytes : take (length kept.bytes) (drop (at + 5 + length kept.key) page) ≡ kept.bytes

-- The roll pointer names the page and the place of the record.
pub record Points (pages : ℕ → List ℕ) (pointer : ℕ) (kept : Kept) : Type 0 where
  pub page : ℕ
  pub at : ℕ
  pub within : at < 65536
  pub split : pointer ≡ 65536 * page + at
  pub holds : HoldsRecord (pages page) at kept

-- What is kept in memory stands in undo pages, too.
abbrev pub IsShadow : (ℕ → List ℕ) → (ℕ → Option Kept) → Type 0
IsShadow pages kept = (pointer : ℕ) (found : Kept) → kept pointer ≡ Some found → Points pages pointer found

-- the slot has this id, and the first page of its log says that it is open
abbrev pub is_open_slot : (ℕ → List ℕ) → ℕ → ℕ → Bool
is_open_slot pages id slot =
    not (id == 0) && u64_at (40 + 16 * slot) (pages 1) == id && slice_index (pages (u32_at (48 + 16 * slot) (pages 1))) 50 == 1

abbrev pub open_below : (ℕ → List ℕ) → ℕ → ℕ → Bool
open_below pages zero id = false
open_below pages (suc slot) id = is_open_slot pages id slot || open_below pages slot id

-- an open slot has the id
abbrev pub open_on : (ℕ → List ℕ) → ℕ → Bool
open_on pages = open_below pages 68

-- The pages stand for the database, with the older versions that their undo pages keep and the transactions that their slots say.
pub record ReadAsDb (pages : ℕ → List ℕ) (db : Database) : Type 0 where
  pub kept : ℕ → Option Kept
  pub shadow : IsShadow (bare_pages pages) kept
  pub stands : StandForDb (bare_pages pages) kept (open_on (bare_pages pages)) db
