-- Refusals stay what they are over the calls before them, and what is read of page 0 and of the log is read of one state.
use Rattle.std.proofs.Common.{◌≡◌, inl, inr, ℕ, ◌+◌, ◌<◌, ◌≤◌, Some, List, length, take, sym, arith, length-take}
use Rattle.std.specs.Prelude.{All, Result, Ok, Err, IfErr}
use Rattle.std.proofs.lemmas.List.{take_all}
use Rattle.store_api.specs.declared.answers.MountBad.{MountBad}
use Rattle.store_api.specs.declared.answers.MountBad.TheVariants.{Disk, NotInitialised, Version, Damaged, NoMemory, Malformed, NotEmpty, TooLarge}
use Rattle.store_api.specs.Past.{Past, Now}
use Rattle.inno_db.specs.Database.{Database}
use Rattle.inno_model.specs.Past.{changed}
use Rattle.log_format.specs.declared.group.Group.{Group}
use Rattle.stored_pages.specs.Reading.{IsPageIn}
use Rattle.law_crashes.specs.Header.{IsHeader}
use Rattle.law_crashes.specs.Records.{no_db, changes_in}
use Rattle.law_crashes.specs.RowScan.{HasRowsOnly}
use Rattle.store_api.specs.Looks.{Looks, LeavesState}
use Rattle.file_zero.specs.Reading.{IsRead, SaysHeader, HasGroups, IsFound}
use Rattle.file_zero.specs.Refused.{IsRefused, IsTooMany, IsOther, IsMissing, IsFirstPage, HasNoFirstPage, IsFailure, IsLeft}
use Rattle.store_api.proofs.Looks.{Now-stays}

-- page 0 is another thing
pub other_refused : (old new : Past) (page : List ℕ) (why : MountBad) → Now (λ s. IsPageIn s.pages.seen s.double.seen 0 (Some page)) new → IsOther page why
    → IsRefused old new why
other_refused old new page NotInitialised read other = λ s ticks is. inr (page, read s ticks is, other)
other_refused old new page (Version found) read other = λ s ticks is. inr (page, read s ticks is, other)
other_refused old new page Disk read other = absurd other
other_refused old new page (Damaged area place stored computed) read other = absurd other
other_refused old new page NoMemory read other = absurd other
other_refused old new page (Malformed at rule) read other = absurd other
other_refused old new page (NotEmpty bytes) read other = absurd other
other_refused old new page (TooLarge rows) read other = absurd other

module _ (mid now : Past) (run first : ℕ) (groups : List Group) (block rest : ℕ) (header : Now (SaysHeader run first) mid) (stays : LeavesState mid now)
    (log : Now (λ s. HasGroups run first s.log.seen groups block rest) now) where
  -- there are too many rows
  pub many_refused : (old : Past) (why : MountBad) → IsTooMany (changed no_db (changes_in groups)) why → IsRefused old now why
  many_refused old NoMemory many = tt
  many_refused old (TooLarge rows) many = λ s ticks is. record {
    run = run;
    first = first;
    groups = groups;
    header = Now-stays (SaysHeader run first) mid now stays header s ticks is;
    scan = (log s ticks is).scan;
    many = many;
  }
  many_refused old Disk many = absurd many
  many_refused old NotInitialised many = absurd many
  many_refused old (Version found) many = absurd many
  many_refused old (Damaged area place stored computed) many = absurd many
  many_refused old (Malformed page rule) many = absurd many
  many_refused old (NotEmpty bytes) many = absurd many

  pub is_found : (next : ℕ) (db : Database) → All HasRowsOnly groups → db ≡ changed no_db (changes_in groups) → next ≡ first + length groups → 0 < next
      → IsFound run block next db rest now
  is_found next db rows reads numbers some = record {
    first = first;
    groups = groups;
    of_rows = rows;
    reads = reads;
    numbers = numbers;
    some = some;
    header = Now-stays (SaysHeader run first) mid now stays header;
    log = log;
  }

-- what is there may be all of it
is_read : (len : ℕ) (place : List ℕ) → length place ≡ 4096 → len ≤ 4096 → IsRead len place (take len place)
is_read len place size fits = sym (take_all (length place) (take len place) (omega (arith, length-take len place, size, fits)))

-- no page 0 can be read
pub missing_refused : (old new : Past) (len : ℕ) (place : List ℕ) → length place ≡ 4096 → len ≤ 4096 → (why : MountBad)
    → ((pages : List ℕ) → IsRead len place pages → IsMissing pages why)
    → Now HasNoFirstPage new → Now (λ s. IsRead len place s.pages.seen) new → IsRefused old new why
missing_refused old new len place size fits NotInitialised missing none read = λ s ticks is. inl (none s ticks is, missing s.pages.seen (read s ticks is))
missing_refused old new len place size fits (Damaged area at stored computed) missing none read =
    λ s ticks is. inl (none s ticks is, missing s.pages.seen (read s ticks is))
missing_refused old new len place size fits Disk missing none read = absurd (missing (take len place) (is_read len place size fits))
missing_refused old new len place size fits NoMemory missing none read = tt
missing_refused old new len place size fits (Version found) missing none read = absurd (missing (take len place) (is_read len place size fits))
missing_refused old new len place size fits (Malformed page rule) missing none read = absurd (missing (take len place) (is_read len place size fits))
missing_refused old new len place size fits (NotEmpty bytes) missing none read = absurd (missing (take len place) (is_read len place size fits))
missing_refused old new len place size fits (TooLarge rows) missing none read = absurd (missing (take len place) (is_read len place size fits))

pub says_header : (past : Past) (page : List ℕ) → Now (IsFirstPage page) past → (run first : ℕ) → IsHeader run first page → Now (SaysHeader run first) past
says_header past page read run first header = λ s ticks is. record { page = page; read = read s ticks is; header = header }

-- ---- files that are left as they were

looked_at : (old new : Past) (why : MountBad) → Looks old new → IsLeft old new why
looked_at old new Disk looks = tt
looked_at old new NoMemory looks = tt
looked_at old new NotInitialised looks = looks
looked_at old new (Version found) looks = looks
looked_at old new (Damaged area place stored computed) looks = looks
looked_at old new (Malformed page rule) looks = looks
looked_at old new (NotEmpty bytes) looks = looks
looked_at old new (TooLarge rows) looks = looks

pub left_by_looks : {T : Type 0} (old new : Past) (result : Result T MountBad) → Looks old new → IfErr result (IsLeft old new)
left_by_looks old new (Ok x) looks = tt
left_by_looks old new (Err why) looks = looked_at old new why looks

pub left_by_failure : (old new : Past) (why : MountBad) → IsFailure why → IsLeft old new why
left_by_failure old new Disk failure = tt
left_by_failure old new NoMemory failure = tt
left_by_failure old new NotInitialised failure = absurd failure
left_by_failure old new (Version found) failure = absurd failure
left_by_failure old new (Damaged area place stored computed) failure = absurd failure
left_by_failure old new (Malformed page rule) failure = absurd failure
left_by_failure old new (NotEmpty bytes) failure = absurd failure
left_by_failure old new (TooLarge rows) failure = absurd failure
