-- What a SELECT has before it at most.
use Rattle.std.specs.Prelude.{ℕ, List}
use Rattle.shared_lists.specs.State.{State}
use Rattle.sql_lists.specs.Going.{left, to_search}
use Rattle.inno_types.specs.Order.{IsBelow}
use Rattle.sql_lists.specs.declared.advance.Advance.{Advance}
use Rattle.sql_lists.specs.declared.advance.Advance.TheVariants as advance
use Rattle.giving_up.specs.Going.{to_leave}
use Rattle.read_statement.specs.declared.machine.ReadStatement.{ReadStatement}
use Rattle.read_statement.specs.declared.machine.ReadStatement.TheVariants as machine

-- its phases, and the places that its search has before it
abbrev pub to_go : ℕ → State → ReadStatement → List ℕ
to_go s state (machine.Opening asked) = left 9 0 0 0
to_go s state (machine.Open stmt alone) = left 8 0 0 0
to_go s state (machine.Viewed stmt alone) = left 7 0 0 0
to_go s state (machine.Searching read) = to_search 6 s state
to_go s state (machine.Found found) = left 5 0 0 0
to_go s state (machine.Leaving leaving) = to_leave s state leaving

-- a step that went, or that found no memory, has fewer phases before it
abbrev pub NearsTo : ℕ → ℕ → State → ReadStatement → Advance → Type 0
NearsTo phases s new after advance.Went = IsBelow (to_go s new after) (left phases 0 0 0)
NearsTo phases s new after advance.NoMemory = IsBelow (to_go s new after) (left phases 0 0 0)
NearsTo phases s new after other = Unit {0}
