-- Why the tables of the catalog can't be told.
use Rattle.std.specs.Prelude.{◌≡◌, ◌⊎◌, ℕ, ◌+◌, ◌<◌, ◌≤◌, true, false, List, [], ◌∷◌, ◌++◌, length, IsTrue, Option, Some, None}
use Rattle.catalog.specs.declared.held.Held.{Held}
use Rattle.catalog.specs.declared.held.EntryBad.{EntryBad}
use Rattle.catalog.specs.declared.held.EntryBad.TheVariants.{Shape}
use Rattle.catalog.specs.declared.held.EntryBad.TheVariants as entry
use Rattle.store_api.specs.declared.visits.FindBad.{FindBad}
use Rattle.store_api.specs.declared.visits.FindBad.TheVariants.{Visit, Malformed, NoMemory}
use Rattle.stored_pages.specs.declared.layout.TheConstants.{FIRST_CATALOG_PAGE, FIXED_PAGES}
use Rattle.mtr.specs.Seen.{MtrState}
use Rattle.mtr.specs.Calls.{IsReason}
use Rattle.catalog.specs.Makeable.{is_makeable}
use Rattle.catalog.specs.Tables.{IsUnused, HoldsTable, is_new_name, page_count, HoldsBelow}

-- page 0, which counts the pages, and those of the catalog
abbrev pub catalog_pages : List ℕ
catalog_pages = 0 ∷ 5 ∷ 6 ∷ 7 ∷ 8 ∷ 9 ∷ 10 ∷ 11 ∷ 12 ∷ 13 ∷ 14 ∷ 15 ∷ 16 ∷ 17 ∷ 18 ∷ 19 ∷ 20 ∷ []

-- what a page of the catalog holds: a table, or none
abbrev pub Shows : ℕ → List ℕ → Option Held → Type 0
Shows count page None = IsUnused page
Shows count page (Some held) = HoldsTable count held page

-- each of its fields has a value that it may have
abbrev pub HasFields : ℕ → List ℕ → Type 0
HasFields count page = (shown : Option Held) × Shows count page shown

-- why a page shows no table and isn't unused; want of memory is free
abbrev pub IsNoTable : ℕ → List ℕ → EntryBad → Type 0
IsNoTable count page Shape = HasFields count page → ⊥
IsNoTable count page entry.NoMemory = Unit {0}

-- A CREATE TABLE could have put this table on this page behind those.
abbrev pub Accepts : List Held → ℕ → Held → Type 0
Accepts before page held = (page ≤ FIRST_CATALOG_PAGE + length before) × (is_makeable held.schema ≡ true) × (is_new_name held.schema.name before ≡ true)

-- None could: there is an unused page before it, the schema is one that is refused, or another table has the name.
abbrev pub Refuses : List Held → ℕ → Held → Type 0
Refuses before page held = (FIRST_CATALOG_PAGE + length before < page) ⊎ (is_makeable held.schema ≡ false) ⊎ (is_new_name held.schema.name before ≡ false)

pub record IsRefusedTable (before : List Held) (page : ℕ) (held : Held) (pages : ℕ → List ℕ) : Type 0 where
  pub holds : HoldsTable (page_count pages) held (pages page)
  pub refused : Refuses before page held

-- the rule that the page breaks: 1 of its fields, 6 of its table
abbrev pub BreaksRule : List Held → ℕ → ℕ → (ℕ → List ℕ) → Type 0
BreaksRule before page rule pages =
    ((rule ≡ 1) × (HasFields (page_count pages) (pages page) → ⊥)) ⊎ ((rule ≡ 6) × ((held : Held) × IsRefusedTable before page held pages))

-- The page is the first of the catalog that breaks a rule, and this is the first rule that it breaks.
pub record IsFirstBroken (page rule : ℕ) (pages : ℕ → List ℕ) : Type 0 where
  pub is_catalog : (FIRST_CATALOG_PAGE ≤ page) × (page < FIXED_PAGES)
  pub before : List Held
  pub good : HoldsBelow before page pages
  pub breaks : BreaksRule before page rule pages

-- what a page says breaks no rule as it is asked for
abbrev pub NeverBreaks : ℕ → ℕ → (ℕ → List ℕ) → Type 0
NeverBreaks page rule pages = ⊥

-- why a page of the catalog isn't told; want of memory is free
abbrev pub IsTableReason : ℕ → ℕ → MtrState → MtrState → FindBad → Type 0
IsTableReason page count old new (Visit why) = IsReason catalog_pages NeverBreaks old new why
IsTableReason page count old new (Malformed number rule) = (number ≡ page) × (rule ≡ 1) × (IsTrue new.told → HasFields count (old.seen page) → ⊥)
IsTableReason page count old new NoMemory = Unit {0}

-- what a page that shows this adds to the tables before it
abbrev pub Adds : List Held → ℕ → Option Held → List Held → Type 0
Adds before page None after = after ≡ before
Adds before page (Some held) after = (after ≡ before ++ held ∷ []) × Accepts before page held

-- why it can't be added; want of memory is free
abbrev pub IsAddReason : List Held → ℕ → Option Held → FindBad → Type 0
IsAddReason before page shown (Visit why) = ⊥
IsAddReason before page shown (Malformed number rule) = (number ≡ page) × (rule ≡ 6) × ((held : Held) × (shown ≡ Some held) × Refuses before page held)
IsAddReason before page shown NoMemory = Unit {0}

-- why the catalog can't be told; want of memory is free
abbrev pub IsLoadReason : MtrState → MtrState → FindBad → Type 0
IsLoadReason old new (Visit why) = IsReason catalog_pages NeverBreaks old new why
IsLoadReason old new (Malformed page rule) = IsTrue new.told → IsFirstBroken page rule old.seen
IsLoadReason old new NoMemory = Unit {0}
