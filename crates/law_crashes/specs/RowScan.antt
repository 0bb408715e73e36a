-- What a log holds before there are pages: groups of changes of rows and tables alone. A group with a record of a page
-- isn't whole there, so it ends the scan.
use Rattle.std.specs.Prelude.{◌≡◌, ℕ, ◌+◌, Bool, true, false, IsTrue, List, ◌++◌, length, All}
use Rattle.log_format.specs.declared.group.Group.{Group}
use Rattle.log_format.specs.declared.group.Record.{Record}
use Rattle.log_format.specs.declared.group.Record.TheVariants.{Put, Fresh}
use Rattle.log_format.specs.Group.{group_bytes, IsGroup, AreGroups}
use Rattle.log_format.specs.Scan.{stream_of, HoldsPayloads}

-- the record is no record of a page
abbrev pub is_of_rows : Record → Bool
is_of_rows (Put page at bytes) = false
is_of_rows (Fresh page) = false
is_of_rows other = true

abbrev pub HasRowsOnly : Group → Type 0
HasRowsOnly g = All (λ r. IsTrue (is_of_rows r)) g.records

-- what stands there doesn't begin with such a group of that LSN
abbrev pub NoRowGroup : ℕ → List ℕ → Type 0
NoRowGroup lsn rest = (g : Group) (more : List ℕ) → IsGroup g → HasRowsOnly g → g.lsn ≡ lsn → rest ≡ group_bytes g ++ more → ⊥

-- The good blocks of the run hold these groups, and no more of them.
pub record IsRowScan (run first : ℕ) (area : List ℕ) (groups : List Group) : Type 0 where
  pub stream : List ℕ
  pub payload : HoldsPayloads run area stream
  pub rest : List ℕ
  pub whole : stream ≡ stream_of groups ++ rest
  pub each : AreGroups first groups
  pub of_rows : All HasRowsOnly groups
  pub ends : NoRowGroup (first + length groups) rest
