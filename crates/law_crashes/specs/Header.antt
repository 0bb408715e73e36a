-- Page 0 of files that keep no rows in pages: which run the log is of, and the LSN of the log's first group.
use Rattle.std.specs.Prelude.{◌≡◌, ℕ, List, Some}
use Rattle.stored_pages.specs.declared.layout.TheConstants.{MAGIC, VERSION, RUN, FIRST_LSN}
use Rattle.stored_pages.specs.Words.{u32_at, u64_at}
use Rattle.stored_pages.specs.Reading.{IsPageIn}

-- the bytes `INNODPRF` as a number
abbrev pub magic : ℕ
magic = 5282245515307668038

-- the page is the first of a database, of whatever version
abbrev pub HasMagic : List ℕ → Type 0
HasMagic page = u64_at MAGIC page ≡ magic

abbrev pub version_of : List ℕ → ℕ
version_of page = u32_at VERSION page

-- a page 0 of version 0 that says this run and this first LSN
pub record IsHeader (run first : ℕ) (page : List ℕ) : Type 0 where
  pub marked : HasMagic page
  pub version : version_of page ≡ 0
  pub of_run : u64_at RUN page ≡ run
  pub begins : u64_at FIRST_LSN page ≡ first

-- Page 0 can be read from its place or from a copy, and however it is read it says this run and this first LSN.
pub record SaysRun (run first : ℕ) (pages double : List ℕ) : Type 0 where
  pub page : List ℕ
  pub read : IsPageIn pages double 0 (Some page)
  pub each : (other : List ℕ) → IsPageIn pages double 0 (Some other) → IsHeader run first other
