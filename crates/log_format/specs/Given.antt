-- A log area that is read piece by piece, group after group.
use Rattle.std.specs.Prelude.{◌≡◌, ◌⊎◌, ℕ, ◌+◌, ◌<◌, Bool, true, List, [], ◌∷◌, ◌++◌, length}
use Rattle.store_api.specs.declared.disk.Area.TheVariants.{Log}
use Rattle.store_api.specs.Areas.{Looked, Within}
use Rattle.store_api.specs.Causes.{Rose}
use Rattle.store_api.specs.Past.{Past, Now, Goes}
use Rattle.log_format.specs.declared.group.Group.{Group}
use Rattle.log_format.specs.Group.{IsGroup, AreGroups}
use Rattle.log_format.specs.Block.{IsGood, payloads}
use Rattle.log_format.specs.Scan.{stream_of, IsScan}
use Rattle.log_format.specs.declared.reader.Next.{Next}
use Rattle.log_format.specs.declared.reader.Next.TheVariants as found
use Rattle.log_format.specs.declared.reader.ReadBad.{ReadBad}
use Rattle.log_format.specs.declared.reader.ReadBad.TheVariants.{Failed, NoMemory}

-- the run, how many blocks were read, the next LSN, the bytes of their payloads that no group was read from, and whether the next block is known not to be good
pub record ReaderView : Type 0 where
  pub run : ℕ
  pub block : ℕ
  pub next : ℕ
  pub rest : List ℕ
  pub ended : Bool

-- The reader has given these groups, the first of them with this LSN, from this area.
pub record HasGiven (first : ℕ) (area : List ℕ) (given : List Group) (r : ReaderView) : Type 0 where
  pub good : (k : ℕ) → k < r.block → IsGood r.run k area
  pub whole : payloads r.block area ≡ stream_of given ++ r.rest
  pub each : AreGroups first given
  pub number : r.next ≡ first + length given
  pub ended : r.ended ≡ true → IsGood r.run r.block area → ⊥

-- What was found is the next group; or there are no more, and those that were given are the scan of the area; or a piece was
-- read. What was given stays so, if the area was the same.
abbrev pub Gives : ℕ → List ℕ → List Group → Past → ReaderView → Next → Type 0
Gives first area given past new (found.Group g) = HasGiven first area (given ++ g ∷ []) new
Gives first area given past new found.More = Now (λ s. s.log.seen ≡ area → HasGiven first area given new) past
Gives first area given past new found.End = HasGiven first area given new × IsScan new.run first area given

-- a group that was found has a spelling
abbrev pub IsFound : Next → Type 0
IsFound (found.Group g) = IsGroup g
IsFound found.More = Unit {0}
IsFound found.End = Unit {0}

-- one read of the log area, or no call
abbrev pub Reads : Bool → Past → Past → Type 0
Reads ok old new = (new ≡ old) ⊎ Goes (Within Log (Looked ok)) old new

-- the reader is nearer to its end: it has read more blocks, or knows that there are no more
abbrev pub IsNearer : ReaderView → ReaderView → Type 0
IsNearer old new = (old.block < new.block) ⊎ (new.ended ≡ true)

-- the disk failed only where its count of faults has risen; want of memory is free
abbrev pub FailedRose : ℕ → ℕ → ReadBad → Type 0
FailedRose before now Failed = Rose before now
FailedRose before now NoMemory = Unit {0}
