-- Why bytes are not read as an entry of the catalog.
use Rattle.std.specs.Prelude.{◌≡◌, List, ℕ, ◌++◌}
use Rattle.catalog.specs.declared.held.Held.{Held}
use Rattle.catalog.specs.declared.held.EntryBad.{EntryBad}
use Rattle.catalog.specs.declared.held.EntryBad.TheVariants.{Shape, NoMemory}
use Rattle.catalog.specs.Entry.{entry_bytes, IsEntry}

-- these bytes begin with an entry, the one of this table
pub record BeginsWith (held : Held) (bytes : List ℕ) : Type 0 where
  pub is_entry : IsEntry held
  pub rest : List ℕ
  pub parts : bytes ≡ entry_bytes held ++ rest

-- they begin with none; want of memory is free
abbrev pub IsRefused : List ℕ → EntryBad → Type 0
IsRefused bytes Shape = (held : Held) → BeginsWith held bytes → ⊥
IsRefused bytes NoMemory = Unit {0}
