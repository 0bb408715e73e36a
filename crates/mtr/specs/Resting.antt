-- A mini-transaction over these pages, at its beginning.
use Rattle.std.specs.Prelude.{◌≡◌, ℕ, ◌<◌, ◌≤◌, List, [], length, slice_index_or, IsTrue}
use Rattle.mtr.specs.Seen.{MtrState, capacity_of}

-- Nothing was put yet. The pages are told, if page 0 counts no more than there are.
pub record IsResting (pages : List (List ℕ)) (spare : ℕ) (s : MtrState) : Type 0 where
  pub standing : (page : ℕ) → page < length pages → s.standing page ≡ slice_index_or pages page []
  pub seen : s.seen ≡ s.standing
  pub told : capacity_of s ≤ length pages → IsTrue s.told
  pub visited_is : s.visited ≡ []
  pub spare_is : s.spare ≡ spare
  pub whole_is : s.whole ≡ spare
