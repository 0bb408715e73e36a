-- The head of page 0, which says of which run the log is and with which LSN it begins. It stays for the whole run.
use Rattle.std.specs.Prelude.{◌≡◌, ◌≢◌, ◌⊎◌, ℕ, ◌+◌, ◌≤◌, List, length, take, drop, All}
use Rattle.log_format.specs.declared.group.Group.{Group}
use Rattle.log_format.specs.declared.group.Record.{Record}
use Rattle.log_format.specs.declared.group.Record.TheVariants.{Put, Fresh, RowPut, RowRemove, NewTable}

-- bytes 32 to 63: magic, version, capacity, run and first LSN
abbrev pub head_of : List ℕ → List ℕ
head_of bytes = take 32 (drop 32 bytes)

-- the record leaves the head
abbrev pub SparesHead : Record → Type 0
SparesHead (Put page at bytes) = page ≡ 0 → (at + length bytes ≤ 32) ⊎ (64 ≤ at)
SparesHead (Fresh page) = page ≢ 0
SparesHead (RowPut table row) = Unit {0}
SparesHead (RowRemove table key) = Unit {0}
SparesHead (NewTable schema) = Unit {0}

abbrev pub SpareHead : List Group → Type 0
SpareHead groups = All (λ g. All SparesHead g.records) groups
