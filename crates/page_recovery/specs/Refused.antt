-- Why a repair or a read of the log gave up, and what is wrong with page 0.
use Rattle.std.specs.Prelude.{◌≡◌, ◌≢◌, ◌⊎◌, ℕ, ◌<◌, List}
use Rattle.store_api.specs.Causes.{Rose}
use Rattle.stored_pages.specs.declared.layout.TheConstants.{FIXED_PAGES, PAGE_COUNT}
use Rattle.store_api.specs.declared.limits.TheConstants.{MOST_PAGES}
use Rattle.stored_pages.specs.Words.{u32_at}
use Rattle.log_format.specs.declared.reader.ReadBad.{ReadBad}
use Rattle.log_format.specs.declared.reader.ReadBad.TheVariants as reading
use Rattle.doublewrite.specs.declared.restoring.RepairBad.{RepairBad}
use Rattle.doublewrite.specs.declared.restoring.RepairBad.TheVariants as repair
use Rattle.law_crashes.specs.Header.{HasMagic, version_of}
use Rattle.page_recovery.specs.declared.bad.RecoverBad.{RecoverBad}
use Rattle.page_recovery.specs.declared.bad.RecoverBad.TheVariants.{Failed, NoMemory, NoDatabase, Version, Capacity}

-- a page 0 that is another thing than the header of files that keep rows in pages
abbrev pub IsOther : List ℕ → RecoverBad → Type 0
IsOther page NoDatabase = HasMagic page → ⊥
IsOther page (Version found) = HasMagic page × (version_of page ≡ found) × (found ≢ 1)
IsOther page (Capacity found) = HasMagic page × (u32_at PAGE_COUNT page ≡ found) × ((found < FIXED_PAGES) ⊎ (MOST_PAGES < found))
IsOther page why = ⊥

abbrev pub of_repair : RepairBad → RecoverBad
of_repair repair.Failed = Failed
of_repair repair.NoMemory = NoMemory

abbrev pub of_reading : ReadBad → RecoverBad
of_reading reading.Failed = Failed
of_reading reading.NoMemory = NoMemory

-- a call has failed, and said nothing of the files: the disk, whose count of faults has risen then, or memory
abbrev pub IsFailed : ℕ → ℕ → RecoverBad → Type 0
IsFailed before now Failed = Rose before now
IsFailed before now NoMemory = Unit {0}
IsFailed before now why = ⊥
