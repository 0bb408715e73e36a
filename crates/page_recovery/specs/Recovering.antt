-- What recovery answers. `read` is how pages are read from the areas, and `log` what stands in the log.
use Rattle.std.specs.Prelude.{◌≡◌, ℕ, ◌+◌, ◌<◌, ◌≤◌, Option, Some, None, IfSome, IfNone, List, length}
use Rattle.store_api.specs.Causes.{Rose}
use Rattle.log_format.specs.declared.group.Group.{Group}
use Rattle.log_format.specs.Scan.{IsScan, EndsAt}
use Rattle.law_logged_pages.specs.Applied.{page_after, logical}
use Rattle.law_logged_pages.specs.Stages.{SameButSum, or_zeros}
use Rattle.law_logged_pages.specs.Keeping.{durable}
use Rattle.page_recovery.specs.declared.recovering.Recovered.{Recovered}
use Rattle.page_recovery.specs.declared.header.Header.{Header}
use Rattle.page_recovery.specs.declared.bad.RecoverBad.{RecoverBad}
use Rattle.page_recovery.specs.declared.bad.RecoverBad.TheVariants.{Failed, NoMemory, NoHeader, PastTheEnd}
use Rattle.page_recovery.specs.Pages.{page_of}
use Rattle.page_recovery.specs.Applying.{AreWithin, NamesPast}
use Rattle.page_recovery.specs.Reading.{IsFileHeader, StandsIn, AreStanding}
use Rattle.page_recovery.specs.Refused.{IsOther}

-- page 0 is read, and says so
pub record SaysHeader (read : ℕ → Option (List ℕ) → Type 0) (capacity run first : ℕ) : Type 0 where
  pub page : List ℕ
  pub is_read : read 0 (Some page)
  pub header : IsFileHeader capacity run first page

-- What was read of the pages.
pub record IsRead (area : List ℕ) (header : Header) (pages : List (Option (List ℕ))) : Type 0 where
  pub says : SaysHeader (StandsIn area) header.capacity header.run header.first
  pub standing : AreStanding area header.capacity pages

-- The log has just these groups of the run that page 0 says. Each page, as it is read, was brought on by all of them.
pub record IsRecovered (read : ℕ → Option (List ℕ) → Type 0) (log : List ℕ) (r : Recovered) : Type 0 where
  pub groups : List Group
  pub header : SaysHeader read (length r.pages) r.run r.first
  pub scan : IsScan r.run r.first log groups
  pub ends : IfSome r.block (λ n. EndsAt r.run n log groups)
  pub none : IfNone r.block ((n : ℕ) → EndsAt r.run n log groups → ⊥)
  pub count_is : r.count ≡ length groups
  pub next_is : r.next ≡ r.first + length groups
  pub within : AreWithin (length r.pages) groups
  pub pages : (page : ℕ) → page < length r.pages
      → (content : Option (List ℕ)) × read page content × (page_of r.pages page ≡ page_after page groups (or_zeros content))

-- ---- why not

-- the run that page 0 says has these groups
pub record HasScan (read : ℕ → Option (List ℕ) → Type 0) (log : List ℕ) (Bad : ℕ → ℕ → List Group → Type 0) : Type 0 where
  pub capacity : ℕ
  pub run : ℕ
  pub first : ℕ
  pub groups : List Group
  pub header : SaysHeader read capacity run first
  pub scan : IsScan run first log groups
  pub bad : Bad capacity first groups

-- page 0 is read, and isn't the header of such files
abbrev pub HasOther : (ℕ → Option (List ℕ) → Type 0) → RecoverBad → Type 0
HasOther read why = (page : List ℕ) × read 0 (Some page) × IsOther page why

-- what is wrong with what was read; of a disk that fails and of want of memory nothing is said here
abbrev pub IsCause : (ℕ → Option (List ℕ) → Type 0) → List ℕ → RecoverBad → Type 0
IsCause read log Failed = Unit {0}
IsCause read log NoMemory = Unit {0}
IsCause read log NoHeader = read 0 None
IsCause read log (PastTheEnd page) = HasScan read log (λ capacity first groups. NamesPast capacity page groups)
IsCause read log other = HasOther read other

-- the disk failed only where its count of faults has risen
abbrev pub IsFault : ℕ → ℕ → RecoverBad → Type 0
IsFault before now Failed = Rose before now
IsFault before now why = Unit {0}

-- ---- a run of groups

-- These are the pages after the first so many groups of the run, among them all that were flushed, but for their sums.
pub record HasAll (capacity run first flushed : ℕ) (groups : List Group) (base : ℕ → List ℕ) (r : Recovered) : Type 0 where
  pub some : r.count ≤ length groups
  pub all_flushed : durable first flushed ≤ r.count
  pub run_is : r.run ≡ run
  pub first_is : r.first ≡ first
  pub next_is : r.next ≡ first + r.count
  pub capacity_is : length r.pages ≡ capacity
  pub pages : (page : ℕ) → page < capacity → SameButSum (page_of r.pages page) (logical base groups r.count page)
