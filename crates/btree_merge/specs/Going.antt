-- What calls that go on within a mini-transaction keep, and why they go no further.
use Rattle.std.specs.Prelude.{◌≡◌, ◌⊎◌, ℕ, ◌+◌, ◌≤◌, length, IsTrue, Some}
use Rattle.store_api.specs.declared.visits.SpaceBad.{SpaceBad}
use Rattle.store_api.specs.declared.visits.SpaceBad.TheVariants.{Full, Visit as Stopped, NoMemory}
use Rattle.store_api.specs.declared.visits.Visit.{Visit}
use Rattle.store_api.specs.declared.visits.Visit.TheVariants.{Failed, Again, Bad}
use Rattle.store_api.specs.Causes.{Rose}
use Rattle.mtr.specs.Seen.{MtrState, is_in, IsShut}
use Rattle.mtr.specs.Calls.{Goes}
use Rattle.space_map.specs.Taking.{Miscounts}

-- Nothing stands otherwise than before, so many pages more were dealt with at most, and those that were are still.
pub record GoesOn (n : ℕ) (old new : MtrState) : Type 0 where
  pub goes : Goes old new
  pub standing : IsTrue new.told → new.standing ≡ old.standing
  pub fault : IsTrue new.told → new.fault ≡ old.fault
  pub longer : length new.visited ≤ n + length old.visited
  pub stay : (page : ℕ) → IsTrue (is_in page old.visited) → IsTrue (is_in page new.visited)

-- The same, and each page is seen as before.
pub record Reads (n : ℕ) (old new : MtrState) : Type 0 where
  pub on : GoesOn n old new
  pub seen : IsTrue new.told → new.seen ≡ old.seen

-- Why a page isn't had: the disk failed; at some moment one wasn't at hand; or one breaks a rule, as it is read or by what it counts.
abbrev pub IsStop : {M : Type 0} → (M → MtrState) → MtrState → MtrState → Visit → Type 0
IsStop state old new Failed = Rose old.faults new.faults
IsStop {M} state old new Again = (m : M) × (page : ℕ) × IsShut page (state m)
IsStop state old new (Bad page rule) = IsTrue new.told → (old.fault page ≡ Some rule) ⊎ Miscounts page rule old.seen

-- Why nothing is merged that could be. Where memory is lacking, nothing more is known.
abbrev pub IsMergeReason : {M : Type 0} → (M → MtrState) → MtrState → MtrState → SpaceBad → Type 0
IsMergeReason state old new Full = ⊥
IsMergeReason state old new (Stopped why) = IsStop state old new why
IsMergeReason state old new NoMemory = Unit {0}
