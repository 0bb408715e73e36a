-- A tree as a list of levels, each a row of pages whose fences follow one another.
use Rattle.std.specs.Prelude.{◌≡◌, ℕ, zero, suc, List, [], ◌∷◌, ◌++◌, map}
use Rattle.std.specs.List.{flat_map}

-- below all keys, a key, or above all keys
pub data Fence : Type 0 where
  First : Fence
  Key : List ℕ → Fence
  Last : Fence

-- what a page says: its fences, its right neighbour, and, of an inner page, the fence and the page of each child
pub record Node : Type 0 where
  pub low : Fence
  pub high : Fence
  pub right : ℕ
  pub entries : List (Fence × ℕ)

-- the first of these pages, or the one that follows
abbrev pub head_or : ℕ → List ℕ → ℕ
head_or next [] = next
head_or next (page ∷ pages) = page

-- the pages stand side by side from one fence to another, and behind them this page
abbrev pub IsRow : (ℕ → Node) → Fence → List ℕ → Fence → ℕ → Type 0
IsRow node low [] high next = low ≡ high
IsRow node low (page ∷ pages) high next =
    ((node page).low ≡ low) × ((node page).right ≡ head_or next pages) × IsRow node (node page).high pages high next

-- each page with its low fence
abbrev pub heads : (ℕ → Node) → List ℕ → List (Fence × ℕ)
heads node pages = map (λ page. ((node page).low, page)) pages

-- the children of these pages, in order
abbrev pub children : (ℕ → Node) → List ℕ → List (Fence × ℕ)
children node pages = flat_map (λ page. (node page).entries) pages

-- one level and the one below it
pub record IsAbove (node : ℕ → Node) (upper lower : List ℕ) : Type 0 where
  pub up : IsRow node First upper Last 0
  pub down : IsRow node First lower Last 0
  pub are_children : children node upper ≡ heads node lower

-- the pages are seen alike
abbrev pub AreAlike : {A : Type 0} → (ℕ → A) → (ℕ → A) → List ℕ → Type 0
AreAlike old new [] = Unit {0}
AreAlike old new (page ∷ pages) = (new page ≡ old page) × AreAlike old new pages

-- A page is cut at a fence: what lies from there on stands in a new page.
pub record AreHalves (old lower upper : Node) (page : ℕ) (fence : Fence) : Type 0 where
  pub lower_low : lower.low ≡ old.low
  pub lower_high : lower.high ≡ fence
  pub lower_right : lower.right ≡ page
  pub upper_low : upper.low ≡ fence
  pub upper_high : upper.high ≡ old.high
  pub upper_right : upper.right ≡ old.right
  pub shared : lower.entries ++ upper.entries ≡ old.entries

-- A page of the lower level is cut, and the parent names the new page behind the old one.
pub record Splits (old new : ℕ → Node) (cs ds xs ys : List ℕ) (u p q : ℕ) (fence : Fence) (e f : List (Fence × ℕ)) : Type 0 where
  pub entries : (old u).entries ≡ e ++ ((old p).low, p) ∷ f
  pub parent : new u ≡ record (old u) { entries = e ++ ((old p).low, p) ∷ (fence, q) ∷ f }
  pub halves : AreHalves (old p) (new p) (new q) q fence
  pub left_parents : AreAlike old new cs
  pub right_parents : AreAlike old new ds
  pub left_pages : AreAlike old new xs
  pub right_pages : AreAlike old new ys

-- Two neighbours under one parent become one page: a split, read backwards.
abbrev pub Merges : (ℕ → Node) → (ℕ → Node) → List ℕ → List ℕ → List ℕ → List ℕ → ℕ → ℕ → ℕ → Fence → List (Fence × ℕ) → List (Fence × ℕ) → Type 0
Merges old new cs ds xs ys u p q fence e f = Splits new old cs ds xs ys u p q fence e f

-- The root's content moves to a new page, and the root names that page alone.
pub record Raises (old new : ℕ → Node) (root page : ℕ) : Type 0 where
  pub moved : new page ≡ old root
  pub root_is : new root ≡ record (old root) { entries = ((old root).low, page) ∷ [] }

-- the levels of a tree from its top on
abbrev pub AreLevels : (ℕ → Node) → List (List ℕ) → Type 0
AreLevels node [] = Unit {0}
AreLevels node (level ∷ []) = IsRow node First level Last 0
AreLevels node (upper ∷ lower ∷ levels) = IsAbove node upper lower × AreLevels node (lower ∷ levels)

abbrev pub AreLevelsAlike : {A : Type 0} → (ℕ → A) → (ℕ → A) → List (List ℕ) → Type 0
AreLevelsAlike old new [] = Unit {0}
AreLevelsAlike old new (level ∷ levels) = AreAlike old new level × AreLevelsAlike old new levels

-- the pages that entries name
abbrev pub named : List (Fence × ℕ) → List ℕ
named entries = map (λ (entry : Fence × ℕ). entry.1) entries

-- so many levels below a level, each read off the entries of the one above it
abbrev pub levels_under : ℕ → (ℕ → Node) → List ℕ → List (List ℕ)
levels_under zero node level = []
levels_under (suc n) node level = named (children node level) ∷ levels_under n node (named (children node level))
