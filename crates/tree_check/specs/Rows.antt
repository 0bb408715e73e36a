-- Pages of a file, and rows of them as a check has walked them.
use Rattle.std.specs.Prelude.{◌≡◌, ◌≢◌, ℕ, suc, ◌<◌, ◌≤◌, List, [], ◌∷◌, length, take, slice_index_or, None, ◌⊎◌, ◌==◌, if◌then◌else◌}
use Rattle.std.specs.List.{AllByRecursion}
use Rattle.stored_pages.specs.declared.layout.TheConstants.{PAGE_COUNT}
use Rattle.page_format.specs.Shape.{IsPage}
use Rattle.page_format.specs.Refused.{IsRefused}
use Rattle.page_format.specs.Words.{level_of, low_of, high_of, right_of, count_of, records_of}
use Rattle.stored_pages.specs.Words.{u32_at}
use Rattle.law_flat_tree.specs.Levels.{Fence, Node, IsRow, heads, children, head_or}
use Rattle.law_flat_tree.specs.Levels.Fence.{First, Key, Last}
use Rattle.law_flat_tree.specs.Pages.{low_fence, child_of, node_of}
use Rattle.space_map.specs.Map.{mark_of}
use Rattle.btree.specs.declared.tree.Tree.{Tree}
use Rattle.btree.specs.Sound.{levels_of}
use Rattle.tree_check.specs.declared.rows.Walk.{Walk}
use Rattle.tree_check.specs.declared.rows.RowFault.{RowFault}
use Rattle.tree_check.specs.declared.rows.RowFault.TheVariants.{Page, Child, Neighbour}
use Rattle.tree_check.specs.declared.pages.PageFault.{PageFault}
use Rattle.tree_check.specs.declared.pages.PageFault.TheVariants.{Missing, Free, Unread, Wrong}
use Rattle.tree_check.specs.Nodes.{IsNode, IsBroken}

-- the page of that number
abbrev pub page_in : List (List ℕ) → ℕ → List ℕ
page_in pages number = slice_index_or pages number []

abbrev pub node_in : Tree → List (List ℕ) → ℕ → Node
node_in tree pages number = node_of tree.key_len (page_in pages number)

-- Page 0 counts a page of that number behind the first ones, the map says that it is in use, and it may stand on the level.
pub record IsNodeAt (tree : Tree) (pages : List (List ℕ)) (level number : ℕ) : Type 0 where
  pub beyond : 20 < number
  pub counted : number < u32_at PAGE_COUNT (page_in pages 0)
  pub within : number < length pages
  pub used : mark_of (page_in pages) number ≡ 1
  pub page : IsPage number (page_in pages number)
  pub node : IsNode tree level (page_in pages number)

-- why it may not
abbrev pub IsFaulty : Tree → List (List ℕ) → ℕ → ℕ → PageFault → Type 0
IsFaulty tree pages level number Missing = 20 < number → u32_at PAGE_COUNT (page_in pages 0) ≤ number
IsFaulty tree pages level number Free = mark_of (page_in pages) number ≡ 0
IsFaulty tree pages level number (Unread bad) = IsRefused number (page_in pages number) bad
IsFaulty tree pages level number (Wrong bad) = IsBroken tree level (page_in pages number) bad

-- the fence and the page that a parent's record of that number tells
abbrev pub entry_fence : ℕ → List ℕ → ℕ → Fence
entry_fence key_len bytes place =
    if place == 0 then low_fence (low_of bytes) else Key (take key_len (slice_index_or (records_of bytes) place []))

-- where the page before ended, or the beginning of the row
abbrev pub end_before : Tree → List (List ℕ) → ℕ → Fence
end_before tree pages last = if last == 0 then First else (node_in tree pages last).high

-- The page that comes next below stands there: the parent's record leads to it, and it begins where that record says and where the
-- page before ends.
pub record IsNextChild (tree : Tree) (pages : List (List ℕ)) (level : ℕ) (now : Walk) : Type 0 where
  pub leads : child_of tree.key_len (slice_index_or (records_of (page_in pages now.upper)) now.place []) ≡ now.lower
  pub node : IsNodeAt tree pages level now.lower
  pub begins : (node_in tree pages now.lower).low ≡ entry_fence tree.key_len (page_in pages now.upper) now.place
  pub meets : (node_in tree pages now.lower).low ≡ end_before tree pages now.last

-- It does. Then the next one is its right neighbour, and the record behind, or the first one of the parent's neighbour.
pub record IsStep (tree : Tree) (pages : List (List ℕ)) (level : ℕ) (now next : Walk) : Type 0 where
  pub inside : now.place < count_of (page_in pages now.upper)
  pub child : IsNextChild tree pages level now
  pub last_is : next.last ≡ now.lower
  pub lower_is : next.lower ≡ right_of (page_in pages now.lower)
  pub behind : suc now.place < count_of (page_in pages now.upper) → (next.upper ≡ now.upper) × (next.place ≡ suc now.place)
  pub over : count_of (page_in pages now.upper) ≤ suc now.place
      → (next.upper ≡ right_of (page_in pages now.upper)) × (next.place ≡ 0)

-- The row below ends with this last page: it has no neighbour, and nothing above it.
pub record IsRowEnd (pages : List (List ℕ)) (last lower : ℕ) : Type 0 where
  pub lower_is : lower ≡ 0
  pub some : last ≢ 0
  pub high : high_of (page_in pages last) ≡ None

-- These pages are a row of that level, from the first one on.
pub record IsCheckedRow (tree : Tree) (pages : List (List ℕ)) (level first : ℕ) (us : List ℕ) : Type 0 where
  pub first_is : head_or 0 us ≡ first
  pub row : IsRow (node_in tree pages) First us Last 0
  pub each : AllByRecursion (IsNodeAt tree pages level) us

-- some pages are
pub record IsRowFrom (tree : Tree) (pages : List (List ℕ)) (level first : ℕ) : Type 0 where
  pub us : List ℕ
  pub checked : IsCheckedRow tree pages level first us

-- The pages of the level below are a row, and the children of the upper row, in order.
pub record HasRowBelow (tree : Tree) (pages : List (List ℕ)) (level first : ℕ) (us : List ℕ) : Type 0 where
  pub ls : List ℕ
  pub checked : IsCheckedRow tree pages level first ls
  pub are_children : children (node_in tree pages) us ≡ heads (node_in tree pages) ls

-- the bytes of each page that the tree leads to are that page
abbrev pub AreFilePages : Tree → List (List ℕ) → Type 0
AreFilePages tree pages = AllByRecursion (AllByRecursion (λ page. IsPage page (page_in pages page))) (levels_of tree (page_in pages))

-- a walk goes from one step to the next
abbrev pub AreSteps : Tree → List (List ℕ) → ℕ → Walk → List Walk → Walk → Type 0
AreSteps tree pages level now [] end = now ≡ end
AreSteps tree pages level now (next ∷ more) end = IsStep tree pages level now next × AreSteps tree pages level next more end

-- From the first pages of two levels a walk comes here.
pub record Comes (tree : Tree) (pages : List (List ℕ)) (level top first : ℕ) (now : Walk) : Type 0 where
  pub way : List Walk
  pub steps : AreSteps tree pages level (record { upper = top; place = 0; lower = first; last = 0 }) way now

-- Why it can't go on from here: the page that comes next may not stand on the level, or it begins elsewhere than its parent's record
-- says or the page before ends; or the page before has another neighbour than the next child, or isn't the end of its row.
abbrev pub IsStop : Tree → List (List ℕ) → ℕ → Walk → RowFault → Type 0
IsStop tree pages level now (Page page fault) = (now.upper ≢ 0) × (page ≡ now.lower) × IsFaulty tree pages level page fault
IsStop tree pages level now (Child page) =
    (now.upper ≢ 0) × (page ≡ now.lower)
    × (((node_in tree pages page).low ≢ entry_fence tree.key_len (page_in pages now.upper) now.place)
    ⊎ ((node_in tree pages page).low ≢ end_before tree pages now.last))
IsStop tree pages level now (Neighbour page) =
    (page ≡ now.last)
    × (now.upper ≢ 0 → child_of tree.key_len (slice_index_or (records_of (page_in pages now.upper)) now.place []) ≢ now.lower)
    × (now.upper ≡ 0 → IsRowEnd pages now.last now.lower → ⊥)

-- A walk comes to where it can't go on.
pub record IsRowFault (tree : Tree) (pages : List (List ℕ)) (level top first : ℕ) (fault : RowFault) : Type 0 where
  pub now : Walk
  pub comes : Comes tree pages level top first now
  pub stop : IsStop tree pages level now fault

-- why the root isn't a row by itself
abbrev pub IsRootFault : Tree → List (List ℕ) → RowFault → Type 0
IsRootFault tree pages (Page page fault) = (page ≡ tree.root) × IsFaulty tree pages (level_of (page_in pages page)) page fault
IsRootFault tree pages (Child page) = (page ≡ tree.root) × (((node_in tree pages page).low ≢ First) ⊎ ((node_in tree pages page).high ≢ Last))
IsRootFault tree pages (Neighbour page) = (page ≡ tree.root) × (right_of (page_in pages page) ≢ 0)

-- what is wrong with the root, or with two levels below it
abbrev pub IsTreeFault : Tree → List (List ℕ) → RowFault → Type 0
IsTreeFault tree pages fault = IsRootFault tree pages fault ⊎ ((level top first : ℕ) × IsRowFault tree pages level top first fault)
