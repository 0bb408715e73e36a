-- The first pages of a file, on which every tree's pages depend.
use Rattle.std.specs.Prelude.{◌≡◌, ℕ, ◌≤◌, List, length}
use Rattle.stored_pages.specs.declared.layout.TheConstants.{PAGE_COUNT}
use Rattle.stored_pages.specs.Words.{u32_at}
use Rattle.space_map.specs.Map.{mark_of}
use Rattle.space_map.specs.Taking.{HasPageCount}
use Rattle.tree_check.specs.declared.space.SpaceFault.{SpaceFault}
use Rattle.tree_check.specs.declared.space.SpaceFault.TheVariants.{Count, Free}
use Rattle.tree_check.specs.Rows.{page_in}

-- page 0 counts as many pages as a file can have, and the file has them
pub record CountsPages (pages : List (List ℕ)) : Type 0 where
  pub counted : HasPageCount (page_in pages)
  pub few : u32_at PAGE_COUNT (page_in pages 0) ≤ length pages

-- It does, and the first pages, which are no tree's, are marked as used.
pub record HasFirstPages (pages : List (List ℕ)) : Type 0 where
  pub count : CountsPages pages
  pub reserved : (page : ℕ) → page ≤ 20 → mark_of (page_in pages) page ≡ 1

-- why they aren't as they should be
abbrev pub IsSpaceFault : List (List ℕ) → SpaceFault → Type 0
IsSpaceFault pages Count = CountsPages pages → ⊥
IsSpaceFault pages (Free page) = (page ≤ 20) × (mark_of (page_in pages) page ≡ 0)
