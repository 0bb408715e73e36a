-- Reads of pages between mini-transactions: nothing is put, and what was looked at is given up.
use Rattle.std.specs.Prelude.{◌≡◌, ◌⊎◌, ℕ, List, [], IsTrue, Some}
use Rattle.store_api.specs.Causes.{Rose}
use Rattle.store_api.specs.declared.visits.Visit.{Visit}
use Rattle.store_api.specs.declared.visits.Visit.TheVariants.{Failed, Again, Bad}
use Rattle.mtr.specs.Seen.{MtrState, IsShut}

-- A mini-transaction at its beginning: no page was dealt with, and each is seen as it stands.
pub record IsIdle (s : MtrState) : Type 0 where
  pub seen : IsTrue s.told → s.seen ≡ s.standing
  pub visited_is : s.visited ≡ []
  pub spare : s.spare ≡ s.whole

-- Why a page isn't read: the disk failed, the page isn't at hand, or it breaks a rule as it is read or can't be read as one of the tree's.
abbrev pub StopsAt : ℕ → (List ℕ → Type 0) → MtrState → MtrState → Visit → Type 0
StopsAt page Readable old new Failed = Rose old.faults new.faults
StopsAt page Readable old new Again = IsShut page new
StopsAt page Readable old new (Bad number rule) =
    IsTrue new.told → (old.fault number ≡ Some rule) ⊎ (Readable (old.standing page) → ⊥)

-- The same of a read of any pages of a tree that stands as it should: told pages are refused only as they are read.
abbrev pub IsHindered : MtrState → MtrState → Visit → Type 0
IsHindered old new Failed = Rose old.faults new.faults
IsHindered old new Again = (page : ℕ) × IsShut page new
IsHindered old new (Bad page rule) = IsTrue new.told → old.fault page ≡ Some rule
