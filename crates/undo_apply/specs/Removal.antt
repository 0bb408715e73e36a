-- What the removal of a pair does, one step of several calls.
use Rattle.std.specs.Prelude.{◌≡◌, ◌≢◌, ℕ, List, None, Some}
use Rattle.store_api.specs.{declared.moves.Move.Move, declared.moves.Move.TheVariants.Done, declared.moves.Move.TheVariants.End}
use Rattle.entries.specs.{Pairs.value_of, Index.Told}
use Rattle.world.specs.{State.WorldState, State.IsIndex, Told.IsTold}
use Rattle.row_changes.specs.{Pairs.RowsStay, Pairs.RowsStayBut, Pairs.PutsPair, Pairs.IsReached}
use Rattle.undo_apply.specs.Stages.{StopsRemoval}

-- The pair is gone, or there is none; or a call was put off, and nothing has changed.
abbrev pub RemovesPair : ℕ → ℕ → List ℕ → WorldState → WorldState → Move → Type 0
RemovesPair actor index key old new Done = PutsPair index key None old new
RemovesPair actor index key old new End = RowsStay old new × Told (λ pairs. value_of key pairs ≡ None) (old.indexes index)
RemovesPair actor index key old new why = RowsStayBut actor old new × StopsRemoval actor index old new why

-- The step has begun at one world, and is at another, where others are kept from changing keys of the index.
pub record HasNext (actor index : ℕ) (start mid : WorldState) : Type 0 where
  pub index_is : IsIndex mid.schemas index
  pub told : IsTold mid
  pub stays : RowsStay start mid
  pub reached : IsReached actor (start.indexes index) (mid.indexes index)
  pub elsewhere : (other by : ℕ) → other ≢ index → (mid.indexes other).awaited ≡ Some by → (start.indexes other).awaited ≡ Some by

-- nobody but this actor is awaited anywhere
abbrev pub IsAwaitedAlone : ℕ → WorldState → Type 0
IsAwaitedAlone actor state = (index by : ℕ) → (state.indexes index).awaited ≡ Some by → by ≡ actor
