-- Where a key stands among records that begin with keys.
use Rattle.std.specs.Prelude.{◌≡◌, ℕ, ◌<◌, ◌≤◌, List, [], length, take, All, slice_index_or}
use Rattle.std.specs.declared.cmp.Ordering.{Ordering}
use Rattle.std.specs.declared.cmp.Ordering.TheVariants.{Less, Greater}
use Rattle.std.specs.Ordering.{nat_cmp}
use Rattle.std.specs.Cmp.Lexicographic.{slice_cmp}
use Rattle.page_format.specs.declared.records.Found.{Found}
use Rattle.page_format.specs.declared.records.Found.TheVariants.{At, Before}

-- how a record's first bytes stand to the key
abbrev pub key_cmp : List ℕ → List ℕ → Ordering
key_cmp key record' = slice_cmp nat_cmp (take (length key) record') key

abbrev pub AreBelow : List ℕ → List (List ℕ) → Type 0
AreBelow key records = All (λ r. key_cmp key r ≡ Less) records

-- The records before the place begin below the key. The one there begins with it, or above it, or there is none.
abbrev pub IsFound : List (List ℕ) → List ℕ → Found → Type 0
IsFound records key (At i) = AreBelow key (take i records) × (i < length records) × (take (length key) (slice_index_or records i []) ≡ key)
IsFound records key (Before i) = AreBelow key (take i records) × (i ≤ length records) × (i < length records → key_cmp key (slice_index_or records i []) ≡ Greater)
