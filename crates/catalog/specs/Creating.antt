-- What making a table does to the pages, and why none is made.
use Rattle.std.specs.Prelude.{◌≡◌, ◌≢◌, ◌⊎◌, ℕ, zero, suc, ◌+◌, ◌*◌, ◌<◌, ◌≤◌, true, false, List, [], ◌∷◌, ◌++◌, length, slice_get, slice_index, IsTrue, Option, Some, None}
use Rattle.std.specs.Int.{w16, w32, to_be_bytes}
use Rattle.std.specs.List.{flat_map}
use Rattle.inno_types.specs.declared.value.Kind.{Kind}
use Rattle.inno_types.specs.declared.value.Kind.TheVariants.{BigInt}
use Rattle.inno_types.specs.declared.value.Column.{Column}
use Rattle.inno_types.specs.declared.value.Key.{Key}
use Rattle.inno_types.specs.declared.value.Schema.{Schema}
use Rattle.inno_db.specs.Declarations.{key_bytes, row_bytes}
use Rattle.store_api.specs.Causes.{Rose}
use Rattle.inno_db.specs.Indexes.{index_of as number_of_index}
use Rattle.page_format.specs.Words.{kind_of, level_of, index_of, right_of, record_len_of, low_of, high_of, records_of}
use Rattle.page_format.specs.Shape.{HasTreeFields}
use Rattle.store_api.specs.declared.visits.Visit.{Visit}
use Rattle.store_api.specs.declared.visits.Visit.TheVariants.{Failed, Again, Bad}
use Rattle.store_api.specs.declared.visits.SpaceBad.{SpaceBad}
use Rattle.store_api.specs.declared.visits.SpaceBad.TheVariants as space
use Rattle.stored_pages.specs.declared.layout.TheConstants.{PAGE, FIRST_CATALOG_PAGE, FIXED_PAGES}
use Rattle.page_format.specs.declared.layout.TheConstants.{LEAF}
use Rattle.store_api.specs.declared.limits.TheConstants.{MOST_PAGES}
use Rattle.mtr.specs.Seen.{MtrState, is_in, claim, capacity_of, AreDistinct, IsShut, with_bytes}
use Rattle.mtr.specs.Calls.{Goes, SeesAt, IsReason}
use Rattle.space_map.specs.Map.{map_page, byte_of, mark_of, IsFree, free_among}
use Rattle.space_map.specs.Taking.{map_pages, HasPageCount, Miscounts}
use Rattle.catalog.specs.declared.held.Held.{Held}
use Rattle.schema_codec.specs.Numbers.{u32_bytes}
use Rattle.schema_codec.specs.Schema.{schema_bytes}
use Rattle.catalog.specs.Tables.{is_new_name, IsCatalog}

-- ---- what is asked

-- The catalog has room for another table, and none of its tables has the name.
pub record HasRoom (name : List ℕ) (pages : ℕ → List ℕ) : Type 0 where
  pub tables : List Held
  pub catalog : IsCatalog tables pages
  pub fewer : length tables < 16
  pub new_name : is_new_name name tables ≡ true

-- The first so many pages of the catalog are in use, and the others are not.
pub record IsFilled (n : ℕ) (pages : ℕ → List ℕ) : Type 0 where
  pub used : (k : ℕ) → k < n → slice_index (pages (FIRST_CATALOG_PAGE + k)) 32 ≡ 1
  pub unused : (k : ℕ) → n ≤ k → k < 16 → slice_index (pages (FIRST_CATALOG_PAGE + k)) 32 ≡ 0

-- a count that was known to lie less than two steps from here is less than one step from the next place
abbrev pub Nears : ℕ → ℕ → ℕ → (ℕ → List ℕ) → Type 0
Nears table step next pages = (n : ℕ) → IsFilled n pages → table ≤ n → n < table + 2 * step → (next ≤ n) × (n < next + step)

-- ---- roots

-- the bytes of an empty leaf from its kind to its fences' lengths
abbrev pub leaf_head : ℕ → ℕ → List ℕ
leaf_head index record_len = 3 ∷ 0 ∷ 0 ∷ 0 ∷ (to_be_bytes w32 index ++ (0 ∷ 0 ∷ 0 ∷ 0 ∷ (to_be_bytes w16 record_len ++ (255 ∷ 255 ∷ []))))

-- An empty leaf of the index of this number, alone on its level and open on both sides.
pub record IsEmptyLeaf (index record_len : ℕ) (page : List ℕ) : Type 0 where
  pub fields : HasTreeFields page
  pub kind : kind_of page ≡ LEAF
  pub level : level_of page ≡ 0
  pub index_is : index_of page ≡ index
  pub right : right_of page ≡ 0
  pub width : record_len_of page ≡ record_len
  pub low : low_of page ≡ None
  pub high : high_of page ≡ None
  pub records : records_of page ≡ []

abbrev pub kind_at : Option Column → Kind
kind_at None = BigInt
kind_at (Some column) = column.kind

-- how many bytes a value of the column at this place has as a key
abbrev pub key_bytes_at : List Column → ℕ → ℕ
key_bytes_at columns place = key_bytes (kind_at (slice_get columns place))

-- a clustered record has a mark, the writer's id, the roll pointer, the key and the fields
abbrev pub clustered_len : Schema → ℕ
clustered_len s = row_bytes s.columns + 17

-- a secondary record has a byte that tells NULL, the value's key, the primary key and a mark
abbrev pub secondary_len : Schema → Option Key → ℕ
secondary_len s None = 0
secondary_len s (Some key) = key_bytes_at s.columns key.column + key_bytes_at s.columns s.primary + 2

-- the records of a table's indexes: the clustered one, and then those of the keys in order
abbrev pub record_len : Schema → ℕ → ℕ
record_len s zero = clustered_len s
record_len s (suc key) = secondary_len s (slice_get s.keys key)

-- the roots are empty leaves of the table's indexes from this one on
abbrev pub AreEmptyRoots : Schema → ℕ → ℕ → List ℕ → (ℕ → List ℕ) → Type 0
AreEmptyRoots s table which [] pages = Unit {0}
AreEmptyRoots s table which (root ∷ roots) pages =
    IsEmptyLeaf (number_of_index table which) (record_len s which) (pages root) × AreEmptyRoots s table (which + 1) roots pages

-- ---- what is left

abbrev pub the_map : List ℕ
the_map = 2 ∷ 3 ∷ 4 ∷ []

-- On the pages of the map each byte is as before that has the bit of none of these pages.
pub record KeepsMap (roots : List ℕ) (old new : ℕ → List ℕ) : Type 0 where
  pub sizes : (page : ℕ) → is_in page the_map ≡ true → length (new page) ≡ length (old page)
  pub bytes : (page at : ℕ) → is_in page the_map ≡ true → ((root : ℕ) → is_in root roots ≡ true → map_page root ≡ page → byte_of root ≢ at)
      → slice_index (new page) at ≡ slice_index (old page) at

-- These pages were free and are marked as used now. But for them, their bits and those that were written all is as before.
pub record ReservesPages (roots written : List ℕ) (old new : MtrState) : Type 0 where
  pub standing : new.standing ≡ old.standing
  pub fault : new.fault ≡ old.fault
  pub counted : capacity_of new ≡ capacity_of old
  pub distinct : AreDistinct roots
  pub inside : (page : ℕ) → is_in page roots ≡ true → page < MOST_PAGES
  pub were_free : (page : ℕ) → is_in page roots ≡ true → IsFree old page
  pub used : (page : ℕ) → is_in page roots ≡ true → mark_of new.seen page ≡ 1
  pub marks : (page : ℕ) → page < MOST_PAGES → is_in page roots ≡ false → mark_of new.seen page ≡ mark_of old.seen page
  pub free : free_among new.seen 0 (capacity_of old) + length roots ≡ free_among old.seen 0 (capacity_of old)
  pub map : KeepsMap roots old.seen new.seen
  pub elsewhere : (page : ℕ) → is_in page roots ≡ false → is_in page written ≡ false → is_in page the_map ≡ false → new.seen page ≡ old.seen page

pub record Reserves (roots written : List ℕ) (old new : MtrState) : Type 0 where
  pub goes : Goes old new
  pub pages : IsTrue new.told → ReservesPages roots written old new

-- One more root: a page was taken and is an empty leaf.
pub record MakesRoot (index record_len root : ℕ) (old new : MtrState) : Type 0 where
  pub reserves : Reserves (root ∷ []) [] old new
  pub counts : IsTrue new.told → HasPageCount old.seen
  pub above : FIXED_PAGES ≤ root
  pub leaf : IsTrue new.told → IsEmptyLeaf index record_len (new.seen root)
  pub deals : claim map_pages new.visited ≤ claim map_pages old.visited + 1

-- The roots of so many of the table's indexes.
pub record MakesRoots (schema : Schema) (table count : ℕ) (roots : List ℕ) (old new : MtrState) : Type 0 where
  pub count_is : length roots ≡ count
  pub reserves : Reserves roots [] old new
  pub counts : 0 < count → IsTrue new.told → HasPageCount old.seen
  pub above : (page : ℕ) → is_in page roots ≡ true → FIXED_PAGES ≤ page
  pub leaves : IsTrue new.told → AreEmptyRoots schema table 0 roots new.seen
  pub deals : claim map_pages new.visited ≤ claim map_pages old.visited + count

-- The entry of the table was put on its page.
pub record PutsEntry (schema : Schema) (table : ℕ) (roots : List ℕ) (old new : MtrState) : Type 0 where
  pub goes : Goes old new
  pub size : IsTrue new.told → length (old.seen (FIRST_CATALOG_PAGE + table)) ≡ PAGE
  pub pages : IsTrue new.told → SeesAt (FIRST_CATALOG_PAGE + table) (with_bytes 32 (1 ∷ (schema_bytes schema ++ flat_map u32_bytes roots)) (old.seen (FIRST_CATALOG_PAGE + table))) old new

-- What the table is as the pages hold it: its roots are empty leaves, and it stands behind the others.
pub record IsCreated (schema : Schema) (table : ℕ) (roots : List ℕ) (old new : MtrState) : Type 0 where
  pub above : (page : ℕ) → is_in page roots ≡ true → FIXED_PAGES ≤ page
  pub leaves : AreEmptyRoots schema table 0 roots new.seen
  pub behind : (tables : List Held) → IsCatalog tables old.seen → (table ≡ length tables) × IsCatalog (tables ++ record { schema = schema; roots = roots } ∷ []) new.seen

-- The table is there, with so many roots as it has indexes.
pub record Creates (schema : Schema) (table : ℕ) (old new : MtrState) : Type 0 where
  pub roots : List ℕ
  pub count : length roots ≡ 1 + length schema.keys
  pub takes : Reserves roots ((FIRST_CATALOG_PAGE + table) ∷ []) old new
  pub created : IsTrue new.told → IsCreated schema table roots old new

-- Where no table is made, some roots may have been taken and written so far, and the catalog is as before.
pub record Attempts (most : ℕ) (old new : MtrState) : Type 0 where
  pub roots : List ℕ
  pub few : length roots ≤ most
  pub takes : Reserves roots [] old new

-- ---- reasons

-- the pages that a table is made with, but for its roots
abbrev pub asked_pages : List ℕ
asked_pages = 0 ∷ 2 ∷ 3 ∷ 4 ∷ 5 ∷ 6 ∷ 7 ∷ 8 ∷ 9 ∷ 10 ∷ 11 ∷ 12 ∷ 13 ∷ 14 ∷ 15 ∷ 16 ∷ 17 ∷ 18 ∷ 19 ∷ 20 ∷ []

-- the map has a page of a fixed number as free, so that it would be used twice
abbrev pub FreesFixed : ℕ → ℕ → (ℕ → List ℕ) → Type 0
FreesFixed page rule pages = (page ≡ 2) × (rule ≡ 5) × ((fixed : ℕ) × (fixed < FIXED_PAGES) × (mark_of pages fixed ≡ 0))

-- The disk has failed, a page isn't at hand, or one breaks a rule: as it is read, by what it counts, or by what it frees.
abbrev pub IsVisitReason : MtrState → MtrState → Visit → Type 0
IsVisitReason old new Failed = Rose old.faults new.faults
IsVisitReason old new Again = (page : ℕ) × ((is_in page asked_pages ≡ true) ⊎ (IsTrue new.told → (page < MOST_PAGES) × IsFree old page)) × IsShut page new
IsVisitReason old new (Bad page rule) =
    (is_in page asked_pages ≡ true) × (IsTrue new.told → (old.fault page ≡ Some rule) ⊎ Miscounts page rule old.seen ⊎ FreesFixed page rule old.seen)

-- why the entry isn't put; want of memory is free
abbrev pub IsPutReason : MtrState → MtrState → SpaceBad → Type 0
IsPutReason old new space.Full = ⊥
IsPutReason old new (space.Visit why) = IsReason asked_pages Miscounts old new why
IsPutReason old new space.NoMemory = Unit {0}

-- why the page isn't made zeros
abbrev pub IsFreshReason : ℕ → MtrState → SpaceBad → Type 0
IsFreshReason page s space.Full = ⊥
IsFreshReason page s (space.Visit Failed) = ⊥
IsFreshReason page s (space.Visit Again) = IsShut page s
IsFreshReason page s (space.Visit (Bad number rule)) = ⊥
IsFreshReason page s space.NoMemory = Unit {0}

-- why no table is made that needs so many pages; want of memory is free
abbrev pub IsCreateReason : ℕ → MtrState → MtrState → SpaceBad → Type 0
IsCreateReason need old new space.Full = IsTrue new.told → free_among old.seen 0 (capacity_of old) < need
IsCreateReason need old new (space.Visit why) = IsVisitReason old new why
IsCreateReason need old new space.NoMemory = Unit {0}
