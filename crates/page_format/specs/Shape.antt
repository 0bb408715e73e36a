-- What a page must be by itself: its fields have their values, and its records rise between its fences.
use Rattle.std.specs.Prelude.{◌≡◌, ℕ, ◌+◌, ◌*◌, ◌<◌, ◌≤◌, List, [], ◌∷◌, take, drop, slice_index, All, Option, Bool, IsTrue, ◌==◌, ◌||◌, if◌then◌else◌, MatchBool}
use Rattle.std.specs.declared.cmp.Ordering.TheVariants.{Less}
use Rattle.std.specs.Ordering.{nat_cmp}
use Rattle.std.specs.Cmp.Lexicographic.{slice_cmp}
use Rattle.store_api.specs.Areas.{PassesSum}
use Rattle.stored_pages.specs.declared.layout.TheConstants.{PAGE}
use Rattle.page_format.specs.declared.layout.TheConstants.{LEAF, INNER, LOW_LEN, HIGH_LEN, NO_FENCE, LOW, HIGH, FENCE, FENCES_END, RECORDS}
use Rattle.page_format.specs.Words.{kind_of, level_of, count_of, record_len_of, low_of, high_of, records_of}
use Rattle.stored_pages.specs.Words.{number_of}
use Rattle.page_format.specs.Fences.{DoFencesRise, BeginsInside, EndsInside}

abbrev pub AreZeros : List ℕ → Type 0
AreZeros bytes = All (λ byte. byte ≡ 0) bytes

-- a leaf, or an inner page of a tree
abbrev pub is_tree : ℕ → Bool
is_tree kind = kind == LEAF || kind == INNER

-- header, catalog, undo, transactions or space map
abbrev pub is_plain : ℕ → Bool
is_plain kind = kind == 1 || kind == 2 || kind == 5 || kind == 6 || kind == 7

-- how many bytes a fence of that length has, where 255 says that there is none
abbrev pub fence_width : ℕ → ℕ
fence_width len = if len == NO_FENCE then 0 else len

-- The fence fits its 80 bytes, and zeros stand behind it.
pub record IsFence (len : ℕ) (bytes : List ℕ) : Type 0 where
  pub fits : fence_width len ≤ FENCE
  pub padded : AreZeros (drop (fence_width len) bytes)

-- a leaf has level 0, and an inner page another of 1 to 7
pub record HasTreeFields (bytes : List ℕ) : Type 0 where
  pub level : kind_of bytes ≡ (if level_of bytes == 0 then LEAF else INNER)
  pub depth : level_of bytes ≤ 7
  pub width : 0 < record_len_of bytes
  pub inside : RECORDS + count_of bytes * record_len_of bytes ≤ PAGE
  pub low : IsFence (slice_index bytes LOW_LEN) (take FENCE (drop LOW bytes))
  pub high : IsFence (slice_index bytes HIGH_LEN) (take FENCE (drop HIGH bytes))
  pub gap : AreZeros (take 12 (drop FENCES_END bytes))
  pub rest : AreZeros (drop (RECORDS + count_of bytes * record_len_of bytes) bytes)

-- a page of another kind has no level, records, index or neighbour
pub record HasPlainFields (bytes : List ℕ) : Type 0 where
  pub kind : IsTrue (is_plain (kind_of bytes))
  pub none : AreZeros (take 11 (drop 21 bytes))

abbrev pub HasFields : List ℕ → Type 0
HasFields bytes = MatchBool (is_tree (kind_of bytes)) (HasTreeFields bytes) (HasPlainFields bytes)

-- each list stands before the next one, byte by byte
abbrev pub AreRising : List (List ℕ) → Type 0
AreRising [] = Unit {0}
AreRising (x ∷ []) = Unit {0}
AreRising (x ∷ y ∷ more) = (slice_cmp nat_cmp x y ≡ Less) × AreRising (y ∷ more)

-- The records rise, and lie between the fences, which rise too.
pub record IsOrdered (low high : Option (List ℕ)) (records : List (List ℕ)) : Type 0 where
  pub rising : AreRising records
  pub fences : DoFencesRise low high
  pub first : BeginsInside low records
  pub last : EndsInside high records

abbrev pub HasTreeOrder : List ℕ → Type 0
HasTreeOrder bytes = IsOrdered (low_of bytes) (high_of bytes) (records_of bytes)

abbrev pub HasOrder : List ℕ → Type 0
HasOrder bytes = MatchBool (is_tree (kind_of bytes)) (HasTreeOrder bytes) (Unit {0})

-- These bytes are the page of that number.
pub record IsPage (number : ℕ) (bytes : List ℕ) : Type 0 where
  pub sum : PassesSum bytes
  pub number_is : number_of bytes ≡ number
  pub fields : HasFields bytes
  pub order : HasOrder bytes
