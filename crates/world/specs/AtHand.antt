-- What a store shows of which nothing is ever put off: it has no pages, or all of them are at hand.
use Rattle.std.specs.Prelude.{◌≡◌, ℕ, Bool, List, true, false, [], None, IfSome}
use Rattle.entries.specs.Index.{Paged, Index}
use Rattle.row_versions.specs.Versions as versions
use Rattle.world.specs.State.{WorldState}
use Rattle.world.specs.Stores.{Pages}
use Rattle.world.specs.Told.{IsTold}

-- The disk has never failed, there is a frame for each page, no page breaks a rule, no latch stands in a way, and each call ends at once.
pub record AreAtHand (faults : ℕ) (is_crowded : Bool) (breaks stops : ℕ → ℕ → Bool) (to_go : ℕ → List ℕ) : Type 0 where
  pub faults_are : faults ≡ 0
  pub crowded_is : is_crowded ≡ false
  pub whole : (page rule : ℕ) → breaks page rule ≡ false
  pub open_to_all : (holder actor : ℕ) → stops holder actor ≡ false
  pub ended : (actor : ℕ) → to_go actor ≡ []

-- the pages of the whole store
abbrev pub ArePagesAtHand : Pages → Type 0
ArePagesAtHand pages = AreAtHand pages.faults pages.is_crowded pages.breaks pages.stops pages.to_go

-- what an index shows of its pages
abbrev pub IsTreeAtHand : Paged → Type 0
IsTreeAtHand pages = AreAtHand pages.faults pages.is_crowded pages.breaks pages.stops pages.to_go

-- the same of pages with versions
pub record AreVersionsAtHand (pages : versions.Paged) : Type 0 where
  pub faults : pages.faults ≡ 0
  pub has_frame : pages.has_frame ≡ true
  pub fault : (page : ℕ) → pages.fault page ≡ None

-- the index's pages, if it has any
abbrev pub IsIndexAtHand : Index → Type 0
IsIndexAtHand index = IfSome index.paged IsTreeAtHand

-- It tells all its pairs and versions, too.
pub record IsAtHand (state : WorldState) : Type 0 where
  pub told : IsTold state
  pub pages : IfSome state.paged ArePagesAtHand
  pub indexes : (index : ℕ) → IsIndexAtHand (state.indexes index)
  pub versions : IfSome state.versions.paged AreVersionsAtHand
