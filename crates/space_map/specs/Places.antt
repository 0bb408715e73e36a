-- The places of one page of the map.
use Rattle.std.specs.Prelude.{ℕ, zero, suc, ◌+◌, ◌-◌, List}
use Rattle.space_map.specs.Map.{bit_in}

-- how many of the first so many are free
abbrev pub free_places : List ℕ → ℕ → ℕ
free_places map zero = 0
free_places map (suc n) = free_places map n + (1 - bit_in map n)
