-- What an edit of a leaf puts, read off the page's bytes.
use Rattle.std.specs.Prelude.{◌≡◌, ℕ, ◌+◌, ◌-◌, ◌*◌, ◌<◌, ◌≤◌, List, ◌++◌, take, drop, replicate}
use Rattle.std.specs.Int.{w16, to_be_bytes}
use Rattle.stored_pages.specs.declared.layout.TheConstants.{PAGE}
use Rattle.page_format.specs.declared.layout.TheConstants.{RECORDS}
use Rattle.mtr.specs.Seen.{with_bytes}
use Rattle.page_format.specs.declared.records.Found.{Found}
use Rattle.page_format.specs.declared.records.Found.TheVariants.{At, Before}
use Rattle.page_format.specs.Words.{count_of, record_len_of}
use Rattle.btree_change.specs.declared.edit.Edit.{Edit}

-- the bytes that are put
abbrev pub piece_of : Edit → List ℕ
piece_of edit = take edit.len edit.piece

-- the page with them, and with its new count
abbrev pub edited : Edit → List ℕ → List ℕ
edited edit page = with_bytes 22 (to_be_bytes w16 edit.count) (with_bytes edit.at (piece_of edit) page)

-- where a record begins
abbrev pub begin_of : ℕ → List ℕ → ℕ
begin_of i bytes = RECORDS + i * record_len_of bytes

-- The record stands at its place, and behind it those that stood there.
pub record IsInsertion (i : ℕ) (rec bytes : List ℕ) (edit : Edit) : Type 0 where
  pub at : edit.at ≡ begin_of i bytes
  pub piece : piece_of edit ≡ rec ++ take (begin_of (count_of bytes) bytes - begin_of i bytes) (drop (begin_of i bytes) bytes)
  pub count : edit.count ≡ count_of bytes + 1

-- The records behind the one that goes stand in its place, and zeros behind them.
pub record IsRemoval (i : ℕ) (bytes : List ℕ) (edit : Edit) : Type 0 where
  pub at : edit.at ≡ begin_of i bytes
  pub piece : piece_of edit ≡ take (begin_of (count_of bytes) bytes - (begin_of i bytes + record_len_of bytes))
      (drop (begin_of i bytes + record_len_of bytes) bytes) ++ replicate (record_len_of bytes) 0
  pub count : edit.count ≡ count_of bytes - 1

-- one record more has room on the page
abbrev pub HasRoom : List ℕ → Type 0
HasRoom bytes = RECORDS + (count_of bytes + 1) * record_len_of bytes ≤ PAGE

-- the place is one of a record, or of one that is to come
abbrev pub IsPlace : List ℕ → Found → Type 0
IsPlace bytes (At i) = i < count_of bytes
IsPlace bytes (Before i) = i ≤ count_of bytes
