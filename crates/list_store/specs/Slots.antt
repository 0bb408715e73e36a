-- What contracts see of older versions: a slot for each roll pointer that was promised, some of them filled.
use Rattle.std.specs.Prelude.{◌≡◌, ℕ, zero, suc, ◌-◌, true, List, slice_get, slice_set, Option, None, Some}
use Rattle.row_versions.specs.declared.kept.Kept.{Kept}
use Rattle.row_versions.specs.Versions.{Versions, IsShort}

abbrev pub filled : Option (Option Kept) → Option Kept
filled None = None
filled (Some slot) = slot

-- the first slot has the pointer 1
abbrev pub kept_behind : List (Option Kept) → ℕ → Option Kept
kept_behind slots zero = None
kept_behind slots (suc place) = filled (slice_get slots place)

abbrev pub slotted : List (Option Kept) → Versions
slotted slots = record { told = true; kept_at = kept_behind slots; paged = None }

-- a slot that is filled holds a version of at most 1,024 bytes
pub record AreShort (slots : List (Option Kept)) : Type 0 where
  pub short : (pointer : ℕ) (kept : Kept) → kept_behind slots pointer ≡ Some kept → IsShort kept

-- the slot of the pointer is filled, if there is something to keep
abbrev pub filled_if : ℕ → Option Kept → List (Option Kept) → List (Option Kept)
filled_if pointer None slots = slots
filled_if pointer (Some kept) slots = slice_set slots (pointer - 1) (Some kept)
