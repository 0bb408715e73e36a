-- Empty lists with room.
use Rattle.std.specs.Prelude.{◌≡◌, ℕ, ◌≤◌, Bool, ◌==◌, ◌&&◌, nat_le, List, [], vec_len, vec_capacity}
use Rattle.std.specs.List.{AllByRecursion}
use Rattle.std.specs.declared.vec.Vec.{Vec}
use Rattle.std.specs.declared.alloc.Global.{Global}

-- the list is empty, with room for so many items
pub record IsEmptyFor {T : Type 0} (items : ℕ) (list : Vec T Global) : Type 0 where
  pub empty : list.items ≡ []
  pub holds : items ≤ vec_capacity list

-- each key is empty, with room for the longest key
abbrev pub HoldKeys : List (Vec ℕ Global) → Type 0
HoldKeys keys = AllByRecursion (IsEmptyFor 67) keys

-- the key is one of these
abbrev pub is_ready : Vec ℕ Global → Bool
is_ready key = vec_len key == 0 && nat_le 67 (vec_capacity key)
