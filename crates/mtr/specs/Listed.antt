-- What pages in two vectors show to a mini-transaction: each page is in the pool, and none breaks a rule.
use Rattle.std.specs.Prelude.{◌≡◌, ℕ, ◌≤◌, List, slice_index_or, true, None, IsTrue}
use Rattle.stored_pages.specs.declared.layout.TheConstants.{PAGE_COUNT}
use Rattle.stored_pages.specs.Words.{u32_at}
use Rattle.mtr.specs.declared.store.Store.{Store}
use Rattle.mtr.specs.Seen.{MtrState, capacity_of}
use Rattle.mtr.specs.Calls.{SeesAt}

-- a page of a list, blank past its end
abbrev pub page_in : List (List ℕ) → List ℕ → ℕ → List ℕ
page_in pages blank page = slice_index_or pages page blank

abbrev pub state_of : Store → MtrState
state_of s = record {
  told = s.told;
  standing = page_in s.standing.items s.blank;
  seen = page_in s.seen.items s.blank;
  fault = λ _. None;
  visited = s.visited.items;
  pooled = λ _. true;
  has_frame = true;
  spare = s.spare;
  whole = s.whole;
  faults = 0;
}

-- The page is seen with these bytes. Pages are told still, unless page 0 counts more of them now.
pub record Replaces (page : ℕ) (bytes : List ℕ) (old new : MtrState) : Type 0 where
  pub told : IsTrue new.told → IsTrue old.told
  pub stays : (page ≡ 0 → u32_at PAGE_COUNT bytes ≤ capacity_of old) → IsTrue old.told → IsTrue new.told
  pub pages : IsTrue new.told → SeesAt page bytes old new
  pub visited_is : new.visited ≡ old.visited
  pub spare_is : new.spare ≡ old.spare
  pub whole_is : new.whole ≡ old.whole
