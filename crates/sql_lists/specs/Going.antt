-- A step that went, or that found no memory, brings its statement nearer to its end, by a list of numbers that gets smaller.
use Rattle.std.specs.Prelude.{ℕ, if◌then◌else◌, is_some, List, [], ◌∷◌, length}
use Rattle.inno_model.specs.{declared.event.Event.Event, Past.level, Past.own}
use Rattle.shared_lists.specs.{Tasks.undo_to_go, State.State, State.task_of, State.places_before}
use Rattle.inno_types.specs.Order.{IsBelow}
use Rattle.sql_lists.specs.declared.advance.Advance.{Advance}
use Rattle.sql_lists.specs.declared.advance.Advance.TheVariants as advance

-- fifteen numbers: how many phases are left, and what is left of this one. (Who drives a statement puts one before them.)
abbrev pub left : ℕ → ℕ → ℕ → ℕ → List ℕ
left phases first second third = phases ∷ first ∷ second ∷ third ∷ 0 ∷ 0 ∷ 0 ∷ 0 ∷ 0 ∷ 0 ∷ 0 ∷ 0 ∷ 0 ∷ 0 ∷ 0 ∷ []

-- a transaction that is yet to be closed
abbrev pub to_close : ℕ → List Event → ℕ
to_close s past = if is_some (level s past) then 1 else 0

-- what a rollback has before it: its transaction's end, the changes to be taken back, and what is left of the one that is
-- being taken back
abbrev pub to_roll_back : ℕ → State → List ℕ
to_roll_back s state = left 1 (to_close s state.past) (length (own s state.past)) (undo_to_go (task_of s state))

-- a search: the keys that it has not come past, and what is left of the one that it is at
abbrev pub to_search : ℕ → ℕ → State → List ℕ
to_search phases s state = left phases (places_before s state).keys (places_before s state).anew (places_before s state).visit

-- the acknowledgement brings the statement nearer to its end, whatever the state
abbrev pub NearsAcked : {M : Type 0} → (ℕ → State → M → List ℕ) → M → M → Type 0
NearsAcked to_go before after = (old new : State) (s : ℕ) → IsBelow (to_go s new after) (to_go s old before)

-- A step from one state and statement to another, by its answer, where so much is left of each: one that went is nearer
-- to the end, and so is one that found no memory, since its statement gives up.
abbrev pub Nears : {M : Type 0} → (ℕ → State → M → List ℕ) → ℕ → State → M → State → M → Advance → Type 0
Nears to_go s old before new after advance.Went = IsBelow (to_go s new after) (to_go s old before)
Nears to_go s old before new after advance.NoMemory = IsBelow (to_go s new after) (to_go s old before)
Nears to_go s old before new after other = Unit {0}
