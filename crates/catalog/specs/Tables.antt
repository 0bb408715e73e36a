-- The tables that the pages of the catalog hold. A table's number is its place in their list, and it stands on the page
-- of that number behind the first one. No table ever goes, so the pages in use come first.
use Rattle.std.specs.Prelude.{◌≡◌, ℕ, ◌+◌, ◌<◌, ◌≤◌, Bool, true, not, List, length, take, drop, slice_get, slice_index, bytes_eq, All, Some}
use Rattle.std.specs.List.{list_all}
use Rattle.stored_pages.specs.declared.layout.TheConstants.{FIRST_CATALOG_PAGE, FIXED_PAGES, PAGE_COUNT}
use Rattle.page_format.specs.Words.{kind_of}
use Rattle.stored_pages.specs.Words.{u32_at}
use Rattle.catalog.specs.declared.held.Held.{Held}
use Rattle.catalog.specs.Refused.{BeginsWith}
use Rattle.catalog.specs.Makeable.{is_makeable}

-- a page of the catalog, whose byte 32 tells whether it is in use
pub record IsCatalogPage (mark : ℕ) (page : List ℕ) : Type 0 where
  pub kind : kind_of page ≡ 2
  pub in_use : slice_index page 32 ≡ mark

abbrev pub IsUnused : List ℕ → Type 0
IsUnused page = IsCatalogPage 0 page

-- The page holds the table's entry, whose roots are pages that there are.
pub record HoldsTable (count : ℕ) (held : Held) (page : List ℕ) : Type 0 where
  pub head : IsCatalogPage 1 page
  pub entry : BeginsWith held (drop 33 page)
  pub roots : All (λ root. root < count) held.roots

-- none of these tables has the name
abbrev pub is_new_name : List ℕ → List Held → Bool
is_new_name name tables = list_all (λ held. not (bytes_eq held.schema.name name)) tables

-- The page holds a table that a CREATE TABLE could make behind these.
pub record IsTable (count : ℕ) (before : List Held) (held : Held) (page : List ℕ) : Type 0 where
  pub holds : HoldsTable count held page
  pub makeable : is_makeable held.schema ≡ true
  pub new_name : is_new_name held.schema.name before ≡ true

-- how many pages there are, as page 0 says
abbrev pub page_count : (ℕ → List ℕ) → ℕ
page_count pages = u32_at PAGE_COUNT (pages 0)

-- The pages of the catalog below this one hold these tables, and no others.
pub record HoldsBelow (tables : List Held) (end : ℕ) (pages : ℕ → List ℕ) : Type 0 where
  pub inside : FIRST_CATALOG_PAGE + length tables ≤ end
  pub each : (i : ℕ) (held : Held) → slice_get tables i ≡ Some held → IsTable (page_count pages) (take i tables) held (pages (FIRST_CATALOG_PAGE + i))
  pub unused : (page : ℕ) → FIRST_CATALOG_PAGE + length tables ≤ page → page < end → IsUnused (pages page)

-- These are the tables of the catalog.
abbrev pub IsCatalog : List Held → (ℕ → List ℕ) → Type 0
IsCatalog tables pages = HoldsBelow tables FIXED_PAGES pages
