-- What contracts see of versions that are kept by roll pointers.
use Rattle.std.specs.Prelude.{◌≡◌, ℕ, ◌≤◌, Bool, ◌==◌, ◌||◌, IsTrue, length, Option, None, Some, is_some}
use Rattle.row_versions.specs.declared.kept.Kept.{Kept}

-- What versions show that are kept in pages: what answers about pages rest on.
pub record Paged : Type 0 where
  -- how often the disk has failed
  pub faults : ℕ
  -- whether some frame of the pool is clean and unfixed
  pub has_frame : Bool
  -- the rule that a page breaks as it is read, if any
  pub fault : ℕ → Option ℕ

pub record Versions : Type 0 where
  -- whether it is known what is kept
  pub told : Bool
  -- what is kept for a roll pointer
  pub kept_at : ℕ → Option Kept
  -- Versions in memory have no pages.
  pub paged : Option Paged

-- the pointer is 0, or something is kept for it
abbrev pub leads : ℕ → Versions → Bool
leads pointer versions = pointer == 0 || is_some (versions.kept_at pointer)

-- where it is known what is kept, the pointer leads there
abbrev pub IsPointer : ℕ → Versions → Type 0
IsPointer pointer versions = IsTrue versions.told → IsTrue (leads pointer versions)

-- Versions stay in memory, or in pages, and the disk's faults are never fewer.
abbrev pub GoesOn : Option Paged → Option Paged → Type 0
GoesOn None None = Unit {0}
GoesOn (Some old) (Some new) = old.faults ≤ new.faults
GoesOn old new = ⊥

-- Nothing that is kept has changed. What is known was known before.
pub record Stays (old new : Versions) : Type 0 where
  pub told : IsTrue new.told → IsTrue old.told
  pub kept : IsTrue new.told → new.kept_at ≡ old.kept_at

-- an encoded version has at most 1,024 bytes
abbrev pub IsShort : Kept → Type 0
IsShort kept = length kept.bytes ≤ 1024
