-- In which order an actor is to ask for latches. No call asks for it: it is the callers' rule.
use Rattle.std.specs.Prelude.{◌≡◌, ℕ, Bool, true, false, ◌==◌, ◌&&◌, ◌||◌, nat_lt, nat_le, if◌then◌else◌, List}
use Rattle.std.specs.List.{AllByRecursion}
use Rattle.latch_table.specs.declared.latches.Target.{Target}
use Rattle.latch_table.specs.declared.latches.Target.TheVariants.{Index, Page}
use Rattle.latch_table.specs.declared.latches.Latch.{Latch}
use Rattle.latch_table.specs.Held.{is_of, targets_of}

-- What is known of the pages that have no number for good.
pub record Layout : Type 0 where
  -- the page belongs to an undo log; else it belongs to a tree
  pub is_undo : ℕ → Bool
  -- where a page stands in its group: a tree's pages from the root down, and on one level from left to right
  pub rank : ℕ → ℕ

-- indexes, pages of trees, the space map, undo pages, the page of transactions, the catalog, the header
abbrev pub group_of : Layout → Target → ℕ
group_of layout (Index index) = 1
group_of layout (Page page) =
    if page == 0 then 7 else if page == 1 then 5 else if nat_le page 4 then 3 else if nat_le page 20 then 6 else if layout.is_undo page then 4 else 2

-- indexes stand by number
abbrev pub rank_of : Layout → Target → ℕ
rank_of layout (Index index) = index
rank_of layout (Page page) = layout.rank page

abbrev pub comes_before : Layout → Target → Target → Bool
comes_before layout target other =
    nat_lt (group_of layout target) (group_of layout other)
    || (group_of layout target == group_of layout other && nat_lt (rank_of layout target) (rank_of layout other))

-- An actor asks for no target that comes before one that it holds, and never changes a mode.
pub record AsksInOrder (layout : Layout) (asked : Latch) (held : List Latch) : Type 0 where
  pub no_earlier : AllByRecursion (λ target. comes_before layout asked.target target ≡ false) (targets_of asked.actor held)
  pub same_mode : AllByRecursion (λ latch. is_of asked.actor asked.target latch ≡ true → latch.mode ≡ asked.mode) held
