-- The pages by number, as one mini-transaction sees them.
use Rattle.std.specs.Prelude.{◌≡◌, ℕ, ◌+◌, ◌<◌, ◌==◌, List, [], ◌∷◌, ◌++◌, length, take, drop, Bool, false, IsTrue, Option, if◌then◌else◌}
use Rattle.std.specs.List.{list_any}
use Rattle.stored_pages.specs.declared.layout.TheConstants.{PAGE, PAGE_COUNT}
use Rattle.stored_pages.specs.Words.{u32_at}

-- What a mini-transaction sees, and how much it may still do. Of a page's bytes only those from 20 on are spoken of:
-- its sum, number and LSN are the pool's, and what stands in their places here means nothing.
pub record MtrState : Type 0 where
  -- whether what stands on the pages is known
  pub told : Bool
  -- the pages as they stand for everybody, and as this mini-transaction sees them, with its own puts
  pub standing : ℕ → List ℕ
  pub seen : ℕ → List ℕ
  -- the rule that a standing page breaks as it is read, if any
  pub fault : ℕ → Option ℕ
  -- the pages that it has asked for or made, in this order
  pub visited : List ℕ
  -- which pages are in the pool, and whether some frame is clean and unfixed
  pub pooled : ℕ → Bool
  pub has_frame : Bool
  -- how much it can put for certain, and how much at its beginning
  pub spare : ℕ
  pub whole : ℕ
  -- how often the disk has failed
  pub faults : ℕ

abbrev pub is_in : ℕ → List ℕ → Bool
is_in page pages = list_any (λ other. other == page) pages

-- the pages dealt with, once this one is too
abbrev pub visit : ℕ → List ℕ → List ℕ
visit page visited = if is_in page visited then visited else visited ++ page ∷ []

-- once all of these are too, in order
abbrev pub visit_all : List ℕ → List ℕ → List ℕ
visit_all [] visited = visited
visit_all (page ∷ pages) visited = visit_all pages (visit page visited)

-- how many pages will have been dealt with, once these are too
abbrev pub claim : List ℕ → List ℕ → ℕ
claim [] visited = length visited
claim (page ∷ pages) visited = (if is_in page visited then 0 else 1) + claim pages visited

-- each of these is one of those
abbrev pub AreAmong : List ℕ → List ℕ → Type 0
AreAmong [] pages = Unit {0}
AreAmong (page ∷ more) pages = IsTrue (is_in page pages) × AreAmong more pages

-- none stands there twice
abbrev pub AreDistinct : List ℕ → Type 0
AreDistinct [] = Unit {0}
AreDistinct (page ∷ pages) = (is_in page pages ≡ false) × AreDistinct pages

-- Some of these pages, and no others, were dealt with too.
pub record Visits (pages : List ℕ) (old new : MtrState) : Type 0 where
  pub asked : List ℕ
  pub known : AreAmong asked pages
  pub visited_is : new.visited ≡ visit_all asked old.visited

-- The page isn't in the pool, and no frame is clean and unfixed.
pub record IsShut (page : ℕ) (s : MtrState) : Type 0 where
  pub absent : s.pooled page ≡ false
  pub none_free : s.has_frame ≡ false

-- how many pages there are, as page 0 says
abbrev pub capacity_of : MtrState → ℕ
capacity_of s = u32_at PAGE_COUNT (s.seen 0)

-- where the pages are told, this is one of them
abbrev pub IsWithin : ℕ → MtrState → Type 0
IsWithin page s = IsTrue s.told → page < capacity_of s

-- the bytes show the page
pub record IsShown (page bytes : List ℕ) : Type 0 where
  pub size : length page ≡ PAGE
  pub same : drop 20 bytes ≡ drop 20 page

-- the bytes of a page with others in their place
abbrev pub with_bytes : ℕ → List ℕ → List ℕ → List ℕ
with_bytes at bytes page = take at page ++ (bytes ++ drop (at + length bytes) page)
