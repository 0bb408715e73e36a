-- What the areas hold before, while and after torn pages are put right from their copies.
use Rattle.std.specs.Prelude.{◌≡◌, ℕ, ◌*◌, ◌<◌, ◌≤◌, Option, Some, List, [], length, take}
use Rattle.store_api.specs.Areas.{State, Image, IsImage, IsHonest, WasWhole, piece}
use Rattle.store_api.specs.Causes.{Rose}
use Rattle.stored_pages.specs.declared.layout.TheConstants.{PAGE, SLOTS, DOUBLE}
use Rattle.store_api.specs.declared.limits.TheConstants.{MOST_PAGES}
use Rattle.doublewrite.specs.declared.restoring.RepairBad.{RepairBad}
use Rattle.doublewrite.specs.declared.restoring.RepairBad.TheVariants.{Failed, NoMemory}
use Rattle.stored_pages.specs.Reading.{IsGoodPage, place_of, IsCopyIn, IsPageIn}
use Rattle.doublewrite.specs.Kept.{IsSettled, HasHonestReads, filled}

-- Nothing is pending in Pages and Double, and a read gives no page by chance.
pub record IsQuiet (s : State) : Type 0 where
  pub pages_rest : s.pages.writes ≡ []
  pub pages_seen : s.pages.seen ≡ s.pages.synced
  pub double_rest : s.double.writes ≡ []
  pub double_seen : s.double.seen ≡ s.double.synced
  pub honest : HasHonestReads s.pages

abbrev pub IsQuietAs : State → State → Type 0
IsQuietAs before s = (s ≡ before) × IsQuiet before

-- how a page is read from what stood on the disk
abbrev pub WasRead : State → ℕ → Option (List ℕ) → Type 0
WasRead before number content = IsPageIn before.pages.synced before.double.synced number content

-- a crash leaves each page as it was read before
pub record ReadsAs (before s : State) : Type 0 where
  pub each : (image : Image) → IsImage s image → IsHonest s image → (number : ℕ) (content : Option (List ℕ)) → number < MOST_PAGES → IsPageIn image.pages image.double number content → WasRead before number content
  pub log_is : s.log ≡ before.log

-- ---- while pages are written in place

-- What was written in Pages are pages as they were read before, and no page that was good in its place was touched.
pub record IsUnharmed (before s : State) : Type 0 where
  pub quiet : IsQuiet before
  pub double_synced : s.double.synced ≡ before.double.synced
  pub double_rest : s.double.writes ≡ []
  pub log_is : s.log ≡ before.log
  pub held : (number : ℕ) (bytes : List ℕ) → IsGoodPage number bytes → WasWhole s.pages (PAGE * number) bytes → WasRead before number (Some bytes)
  pub settled : (number : ℕ) → IsGoodPage number (place_of number before.pages.synced) → IsSettled number s.pages

-- the pages of the first so many copies are good in their places
pub record IsRestoring (before : State) (upto : ℕ) (s : State) : Type 0 where
  pub unharmed : IsUnharmed before s
  pub double_seen : s.double.seen ≡ before.double.synced
  pub honest : HasHonestReads s.pages
  pub restored : (slot number : ℕ) → slot < upto → number < MOST_PAGES → IsGoodPage number (piece PAGE slot before.double.synced) → IsGoodPage number (place_of number s.pages.seen)

-- these bytes are the copies
abbrev pub IsRestoringFrom : State → List ℕ → ℕ → State → Type 0
IsRestoringFrom before double upto s = (double ≡ take DOUBLE before.double.synced) × IsRestoring before upto s

-- ---- while copies are overwritten

-- Every page that had a copy is good in its place for good, and what was written in Double is no page.
pub record IsRestored (before s : State) : Type 0 where
  pub rest : s.pages.writes ≡ []
  pub seen : s.pages.seen ≡ s.pages.synced
  pub held : (number : ℕ) (bytes : List ℕ) → IsGoodPage number bytes → place_of number s.pages.synced ≡ bytes → WasRead before number (Some bytes)
  pub settled : (number : ℕ) → IsGoodPage number (place_of number before.pages.synced) → IsGoodPage number (place_of number s.pages.synced)
  pub restored : (slot number : ℕ) → slot < SLOTS → number < MOST_PAGES → IsGoodPage number (piece PAGE slot before.double.synced) → IsGoodPage number (place_of number s.pages.synced)
  pub copies : (slot number : ℕ) (bytes : List ℕ) → slot < SLOTS → IsGoodPage number bytes → WasWhole s.double (PAGE * slot) bytes → piece PAGE slot before.double.synced ≡ bytes
  pub log_is : s.log ≡ before.log

-- of the first so many slots none holds a good copy, and the others are as they were
pub record IsClearing (before : State) (upto : ℕ) (s : State) : Type 0 where
  pub restored : IsRestored before s
  pub cleared : (slot number : ℕ) → slot < upto → IsGoodPage number (piece PAGE slot s.double.seen) → ⊥
  pub others : (slot : ℕ) → upto ≤ slot → filled slot s.double.seen ≡ filled slot before.double.synced
  pub long : length s.double.seen ≡ length before.double.synced

-- these bytes are the copies as they were
abbrev pub IsClearingFrom : State → List ℕ → ℕ → State → Type 0
IsClearingFrom before double upto s = (double ≡ take DOUBLE before.double.synced) × IsClearing before upto s

-- Nothing is pending, and no good copy is left.
pub record IsRepaired (s : State) : Type 0 where
  pub pages_rest : s.pages.writes ≡ []
  pub pages_seen : s.pages.seen ≡ s.pages.synced
  pub double_rest : s.double.writes ≡ []
  pub double_seen : s.double.seen ≡ s.double.synced
  pub no_copy : (number : ℕ) (bytes : List ℕ) → IsCopyIn s.double.synced number bytes → ⊥

-- the disk failed only where its count of faults has risen; want of memory is free
abbrev pub FailedRose : ℕ → ℕ → RepairBad → Type 0
FailedRose before now Failed = Rose before now
FailedRose before now NoMemory = Unit {0}
