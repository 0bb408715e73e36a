-- What the calls of a mini-transaction make of what it sees.
use Rattle.std.specs.Prelude.{◌≡◌, ◌≢◌, ◌⊎◌, ℕ, ◌+◌, ◌≤◌, List, [], length, replicate, IsTrue, Option, Some, None, Result, MatchResult, if◌then◌else◌}
use Rattle.stored_pages.specs.Words.{u32_at}
use Rattle.store_api.specs.Causes.{Rose}
use Rattle.store_api.specs.declared.visits.Visit.{Visit}
use Rattle.store_api.specs.declared.visits.Visit.TheVariants.{Failed, Again, Bad}
use Rattle.stored_pages.specs.declared.layout.TheConstants.{PAGE, PAGE_COUNT}
use Rattle.mtr.specs.Seen.{MtrState, is_in, visit, Visits, IsShut, with_bytes, capacity_of}

-- pages that were told are told still, unless the disk has failed
abbrev pub StaysTold : MtrState → MtrState → Type 0
StaysTold old new = IsTrue old.told → (Rose old.faults new.faults → ⊥) → IsTrue new.told

-- What each call keeps: pages that are told were told before, the disk's faults don't fall, and a beginning has the same spare.
pub record Keeps (old new : MtrState) : Type 0 where
  pub told : IsTrue new.told → IsTrue old.told
  pub faults : old.faults ≤ new.faults
  pub whole : new.whole ≡ old.whole

-- The same, of a call that leaves page 0's count of pages or lowers it: it never stops telling by itself.
pub record Goes (old new : MtrState) : Type 0 where
  pub told : IsTrue new.told → IsTrue old.told
  pub stays : StaysTold old new
  pub faults : old.faults ≤ new.faults
  pub whole : new.whole ≡ old.whole

-- the pages stand as before, and are seen as before
pub record SamePages (old new : MtrState) : Type 0 where
  pub standing : new.standing ≡ old.standing
  pub seen : new.seen ≡ old.seen
  pub fault : new.fault ≡ old.fault

-- Nothing was changed, and these are now the pages dealt with.
pub record Looks (visited : List ℕ) (old new : MtrState) : Type 0 where
  pub goes : Goes old new
  pub pages : IsTrue new.told → SamePages old new
  pub visited_is : new.visited ≡ visited
  pub spare : new.spare ≡ old.spare

-- the page is seen so, and the others as before
pub record SeesAt (page : ℕ) (bytes : List ℕ) (old new : MtrState) : Type 0 where
  pub standing : new.standing ≡ old.standing
  pub fault : new.fault ≡ old.fault
  pub here : new.seen page ≡ bytes
  pub elsewhere : (other : ℕ) → other ≢ page → new.seen other ≡ old.seen other

-- so much of the spare was used, where it sufficed
abbrev pub Spends : ℕ → MtrState → MtrState → Type 0
Spends n old new = n ≤ old.spare → new.spare + n ≡ old.spare

-- The page is seen as zeros.
pub record Makes (page : ℕ) (old new : MtrState) : Type 0 where
  pub goes : Goes old new
  pub pages : IsTrue new.told → SeesAt page (replicate PAGE 0) old new
  pub visited_is : new.visited ≡ visit page old.visited
  pub spare : Spends 5 old new

-- page 0 will count no more pages than before
abbrev pub CountsNoMore : ℕ → ℕ → List ℕ → MtrState → Type 0
CountsNoMore page at bytes old = page ≡ 0 → u32_at PAGE_COUNT (with_bytes at bytes (old.seen page)) ≤ capacity_of old

-- The page is seen with these bytes. Pages are told still, unless page 0 counts more of them now.
pub record Puts (page at : ℕ) (bytes : List ℕ) (old new : MtrState) : Type 0 where
  pub keeps : Keeps old new
  pub stays : CountsNoMore page at bytes old → StaysTold old new
  pub pages : IsTrue new.told → SeesAt page (with_bytes at bytes (old.seen page)) old new
  pub visited_is : new.visited ≡ old.visited
  pub spare : Spends (length bytes + 9) old new

-- a page that was dealt with can be read from now on
abbrev pub fault_after : MtrState → ℕ → Option ℕ
fault_after s page = if is_in page s.visited then None else s.fault page

-- The pages stand as they were seen, and the next mini-transaction begins.
pub record Commits (old new : MtrState) : Type 0 where
  pub goes : Goes old new
  pub standing : IsTrue new.told → new.standing ≡ old.seen
  pub seen : IsTrue new.told → new.seen ≡ old.seen
  pub fault : IsTrue new.told → new.fault ≡ fault_after old
  pub visited_is : new.visited ≡ []
  pub spare : new.spare ≡ new.whole

-- The pages are seen as they stand, and the next mini-transaction begins.
pub record GivesUp (old new : MtrState) : Type 0 where
  pub goes : Goes old new
  pub standing : IsTrue new.told → new.standing ≡ old.standing
  pub seen : IsTrue new.told → new.seen ≡ old.standing
  pub fault : IsTrue new.told → new.fault ≡ old.fault
  pub visited_is : new.visited ≡ []
  pub spare : new.spare ≡ new.whole

-- Why a page isn't shown. One that was dealt with always is.
abbrev pub Explains : ℕ → MtrState → MtrState → Visit → Type 0
Explains page old new Failed = Rose old.faults new.faults
Explains page old new Again = IsShut page old × (new ≡ old)
Explains page old new (Bad number rule) = (number ≡ page) × (IsTrue old.told → old.fault page ≡ Some rule)

-- what asking for a page makes of what is seen
abbrev pub Asks : {T : Type 0} → ℕ → MtrState → Result T Visit → MtrState → Type 0
Asks page old result new = MatchResult result (λ _. Looks (visit page old.visited) old new) (λ why. Looks old.visited old new × Explains page old new why)

-- ---- several calls

-- It has looked at some of these pages, and changed nothing.
pub record Consults (pages : List ℕ) (old new : MtrState) : Type 0 where
  pub goes : Goes old new
  pub same : IsTrue new.told → SamePages old new
  pub visits : Visits pages old new
  pub spare : new.spare ≡ old.spare

-- Why a call that looks at these pages alone goes no further: the disk has failed, one of them isn't at hand, or one
-- breaks a rule, as it is read or by what it says.
abbrev pub IsReason : List ℕ → (ℕ → ℕ → (ℕ → List ℕ) → Type 0) → MtrState → MtrState → Visit → Type 0
IsReason pages Breaks old new Failed = Rose old.faults new.faults
IsReason pages Breaks old new Again = (page : ℕ) × IsTrue (is_in page pages) × IsShut page new
IsReason pages Breaks old new (Bad page rule) = IsTrue (is_in page pages) × (IsTrue new.told → (old.fault page ≡ Some rule) ⊎ Breaks page rule old.seen)
