-- What stands where in the bytes of a page, behind what each page begins with. All numbers are big-endian.
use Rattle.std.specs.Prelude.{ℕ, zero, suc, List, [], ◌∷◌, take, drop, slice_index, Option, Some, None, ◌==◌, if◌then◌else◌}
use Rattle.page_format.specs.declared.layout.TheConstants.{KIND, LEVEL, COUNT, INDEX, RIGHT, WIDTH, LOW_LEN, HIGH_LEN, NO_FENCE, LOW, HIGH, FENCE, RECORDS}
use Rattle.stored_pages.specs.Words.{u16_at, u32_at}

abbrev pub kind_of : List ℕ → ℕ
kind_of bytes = slice_index bytes KIND

abbrev pub level_of : List ℕ → ℕ
level_of bytes = slice_index bytes LEVEL

abbrev pub count_of : List ℕ → ℕ
count_of bytes = u16_at COUNT bytes

abbrev pub index_of : List ℕ → ℕ
index_of bytes = u32_at INDEX bytes

-- the right neighbour on the page's level, 0 for none
abbrev pub right_of : List ℕ → ℕ
right_of bytes = u32_at RIGHT bytes

abbrev pub record_len_of : List ℕ → ℕ
record_len_of bytes = u16_at WIDTH bytes

-- a fence of that length, 255 for none
abbrev pub fence : ℕ → List ℕ → Option (List ℕ)
fence len bytes = if len == NO_FENCE then None else Some (take len bytes)

abbrev pub low_of : List ℕ → Option (List ℕ)
low_of bytes = fence (slice_index bytes LOW_LEN) (take FENCE (drop LOW bytes))

abbrev pub high_of : List ℕ → Option (List ℕ)
high_of bytes = fence (slice_index bytes HIGH_LEN) (take FENCE (drop HIGH bytes))

-- so many pieces of one size, one behind the other
abbrev pub pieces : ℕ → ℕ → List ℕ → List (List ℕ)
pieces size zero bytes = []
pieces size (suc n) bytes = take size bytes ∷ pieces size n (drop size bytes)

-- the records of a tree page, in order
abbrev pub records_of : List ℕ → List (List ℕ)
records_of bytes = pieces (record_len_of bytes) (count_of bytes) (drop RECORDS bytes)
