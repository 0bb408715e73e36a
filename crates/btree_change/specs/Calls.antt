-- What a change is to a mini-transaction, and why it isn't made.
use Rattle.std.specs.Prelude.{◌≡◌, ◌≢◌, ℕ, ◌<◌, List, [], ◌∷◌, IsTrue, Some}
use Rattle.store_api.specs.declared.visits.SpaceBad.{SpaceBad}
use Rattle.store_api.specs.declared.visits.SpaceBad.TheVariants.{Full, Visit as Stopped, NoMemory}
use Rattle.store_api.specs.declared.visits.Visit.{Visit}
use Rattle.store_api.specs.declared.visits.Visit.TheVariants.{Failed, Again, Bad}
use Rattle.store_api.specs.Causes.{Rose}
use Rattle.stored_pages.specs.declared.layout.TheConstants.{PAGE}
use Rattle.mtr.specs.Seen.{MtrState, Visits, IsShut}
use Rattle.mtr.specs.Calls.{Goes, SeesAt}
use Rattle.btree.specs.declared.tree.Tree.{Tree}
use Rattle.btree.specs.Reads.{IsIdle, IsHindered}
use Rattle.btree.specs.Sound.{HoldsKey}
use Rattle.btree_change.specs.Trees.{IsWholeTree}

-- A page may be seen with other bytes than before, and it may be dealt with; no other page is.
pub record Touches (page : ℕ) (old new : MtrState) : Type 0 where
  pub goes : Goes old new
  pub standing : IsTrue new.told → new.standing ≡ old.standing
  pub fault : IsTrue new.told → new.fault ≡ old.fault
  pub elsewhere : IsTrue new.told → (other : ℕ) → other ≢ page → new.seen other ≡ old.seen other
  pub visits : Visits (page ∷ []) old new

-- The page is seen with these bytes, and no other page is changed.
pub record Rewrites (page : ℕ) (bytes : List ℕ) (old new : MtrState) : Type 0 where
  pub goes : Goes old new
  pub pages : IsTrue new.told → SeesAt page bytes old new
  pub visited_is : new.visited ≡ old.visited

-- As it is seen, the tree is whole, and this is the leaf of the key.
pub record IsLeafFor (tree : Tree) (key : List ℕ) (leaf : ℕ) (pages : ℕ → List ℕ) : Type 0 where
  pub whole : IsWholeTree tree pages
  pub holds : HoldsKey tree pages key leaf

-- Why the leaf isn't read: the disk failed, it isn't at hand, and then nothing was done, or it breaks a rule as it is read.
abbrev pub IsLeafStop : ℕ → MtrState → MtrState → Visit → Type 0
IsLeafStop leaf old new Failed = Rose old.faults new.faults
IsLeafStop leaf old new Again = IsShut leaf old × (new ≡ old)
IsLeafStop leaf old new (Bad page rule) = IsTrue new.told → old.fault page ≡ Some rule

-- Why nothing is done in a leaf: it isn't read, or the mini-transaction can't put so much more.
abbrev pub IsLeafReason : ℕ → MtrState → MtrState → SpaceBad → Type 0
IsLeafReason leaf old new Full = ⊥
IsLeafReason leaf old new (Stopped why) = IsLeafStop leaf old new why
IsLeafReason leaf old new NoMemory = old.spare < PAGE

-- Why a change isn't made. Where memory is lacking, nothing more is known.
abbrev pub IsChangeReason : MtrState → MtrState → SpaceBad → Type 0
IsChangeReason old new Full = ⊥
IsChangeReason old new (Stopped why) = IsHindered old new why
IsChangeReason old new NoMemory = Unit {0}

-- What holds of the pages after a call that has ended: each stands as it is seen, and no page was dealt with.
pub record Ends (old new : MtrState) : Type 0 where
  pub goes : Goes old new
  pub idle : IsIdle new
