-- A step that went did work: what its session has before it at most, a list of sixteen numbers, gets smaller.
use Rattle.std.specs.Prelude.{ℕ, List, ◌∷◌, Option, None, Some, IfSome}
use Rattle.inno_types.specs.Order.{IsBelow}
use Rattle.store_api.specs.declared.answers.Progress.{Progress}
use Rattle.store_api.specs.declared.answers.Progress.TheVariants as progress
use Rattle.sql_lists.specs.Going.{left}
use Rattle.session_engine.specs.Seats.{State as Sessions}
use Rattle.session_engine.specs.Going.{to_go as session_to_go}
use Rattle.durable_engine.specs.State.{State}

-- sessions of a stopped engine have one step before them, which never answers that it went
abbrev pub to_go_of : ℕ → Option Sessions → List ℕ
to_go_of s None = 0 ∷ left 0 0 0 0
to_go_of s (Some sessions) = session_to_go s sessions

-- what the session has before it at most
abbrev pub to_go : {D : Type 0} → ℕ → State D → List ℕ
to_go s state = to_go_of s state.running

-- a step that went makes it smaller
abbrev pub Nears : {D : Type 0} → ℕ → Progress → State D → State D → Type 0
Nears s progress.Went old new = IsBelow (to_go s new) (to_go s old)
Nears s other old new = Unit {0}

-- So does one that found no memory, as long as the engine runs.
abbrev pub NearsLacking : {D : Type 0} → ℕ → Progress → State D → State D → Type 0
NearsLacking s progress.NoMemory old new = IfSome new.running (λ sessions. IsBelow (session_to_go s sessions) (to_go s old))
NearsLacking s other old new = Unit {0}
