-- What a search does with the pair, and with the version, that it was given.
use Rattle.std.specs.Prelude.{◌≡◌, ◌==◌, ℕ, List, if◌then◌else◌}
use Rattle.store_api.specs.{declared.answers.Version.Version, declared.moves.Move.Move}
use Rattle.store_api.specs.declared.moves.Move.TheVariants as move
use Rattle.store_api.specs.{declared.visits.Visit.Visit, declared.visits.Visit.TheVariants.Failed, declared.visits.Visit.TheVariants.Again}
use Rattle.store_api.specs.{declared.visits.Visit.TheVariants.Bad}
use Rattle.row_search.specs.{declared.glance.Glance.Glance, declared.glance.Glance.TheVariants.Older, declared.glance.Glance.TheVariants.Deleted}
use Rattle.row_search.specs.{declared.glance.Glance.TheVariants.Row, declared.side.Side.Side, declared.side.Side.TheVariants.Before}
use Rattle.row_search.specs.{declared.side.Side.TheVariants.Within, declared.side.Side.TheVariants.Behind, declared.scan.Scan.Scan}
use Rattle.row_search.specs.{declared.sight.Sight.Sight, declared.phase.Phase.Phase, Sights.sees_by, Ranges.IsOnSide}
use Rattle.row_search.specs.declared.phase.Phase.TheVariants.{Follow, Fetch, Look, Walk, Keep, Sort}

-- what comes next at a pair on this side of the range
abbrev pub phase_at : ℕ → List ℕ → List ℕ → Side → Phase
phase_at which key value Before = Follow
phase_at which key value Within = if which == 0 then Look key value else Fetch key
phase_at which key value Behind = Sort

pub record IsGivenPhase (scan : Scan) (key value : List ℕ) (next : Phase) : Type 0 where
  pub side : Side
  pub is_on : IsOnSide scan.range key side
  pub next_is : next ≡ phase_at scan.which key value side

-- what the reader sees of this version
abbrev pub glance_at : Sight → Version → Glance
glance_at sight version = if sees_by sight version.writer then (if version.marked then Deleted else Row version.row) else Older version.pointer

-- what comes next once a version was looked at
abbrev pub phase_after : List ℕ → Glance → Phase
phase_after entry (Older pointer) = Walk entry pointer
phase_after entry Deleted = Follow
phase_after entry (Row row) = Keep entry row

-- what comes next once the search comes to its pair anew
abbrev pub phase_anew : Phase → Phase
phase_anew (Look entry bytes) = Fetch entry
phase_anew (Walk entry pointer) = Fetch entry
phase_anew other = other

-- what keeps a version from being shown, as a call of an index says it
abbrev pub move_for : Visit → Move
move_for Failed = move.Failed
move_for Again = move.Again
move_for (Bad page rule) = move.Bad page rule
