-- What a chain answers for a pointer. No call changes anything.
use Rattle.std.specs.Prelude.{◌≡◌, ◌≢◌, ℕ, Bool, true, false, IsTrue, List, Option, None, Some, option_map, Result, Ok, Err}
use Rattle.store_api.specs.Causes.{Rose}
use Rattle.store_api.specs.declared.answers.Version.{Version}
use Rattle.store_api.specs.declared.visits.Visit.{Visit}
use Rattle.store_api.specs.declared.visits.Visit.TheVariants.{Failed, Again, Bad}
use Rattle.row_versions.specs.declared.answers.ChainBad.{ChainBad}
use Rattle.row_versions.specs.declared.answers.ChainBad.TheVariants.{Visit as Unseen, NoMemory}
use Rattle.row_versions.specs.Versions.{Paged, Versions, Stays}

-- a page isn't shown, by a cause that only versions in pages have
abbrev pub InPages : (Paged → Paged → Type 0) → Option Paged → Option Paged → Type 0
InPages P (Some old) (Some new) = P old new
InPages P old new = ⊥

-- After a fault of the disk nobody knows what its pages hold.
abbrev pub IsUnseen : Versions → Versions → Visit → Type 0
IsUnseen old new Failed = InPages (λ before now. Rose before.faults now.faults) old.paged new.paged
IsUnseen old new Again = InPages (λ before now. before.has_frame ≡ false) old.paged new.paged × Stays old new
IsUnseen old new (Bad page rule) = InPages (λ before now. before.fault page ≡ Some rule) old.paged new.paged × Stays old new

-- the version that is kept for the pointer, or none for pointer 0
abbrev pub ShowsVersion : ℕ → Versions → Versions → Result (Option Version) ChainBad → Type 0
ShowsVersion pointer old new (Ok None) = (pointer ≡ 0) × Stays old new
ShowsVersion pointer old new (Ok (Some version)) =
    (pointer ≢ 0) × (IsTrue old.told → option_map (λ kept. kept.version) (old.kept_at pointer) ≡ Some version) × Stays old new
ShowsVersion pointer old new (Err (Unseen why)) = IsUnseen old new why
ShowsVersion pointer old new (Err NoMemory) = Stays old new

-- the bytes that are kept for the pointer were read, or none for pointer 0; no memory is taken
abbrev pub ShowsBytes : ℕ → List ℕ → Versions → Versions → Result Bool Visit → Type 0
ShowsBytes pointer read old new (Ok false) = (pointer ≡ 0) × Stays old new
ShowsBytes pointer read old new (Ok true) =
    (pointer ≢ 0) × (IsTrue old.told → option_map (λ kept. kept.bytes) (old.kept_at pointer) ≡ Some read) × Stays old new
ShowsBytes pointer read old new (Err why) = IsUnseen old new why

abbrev pub has_read : Result Bool Visit → Bool
has_read (Ok read) = read
has_read (Err why) = false
