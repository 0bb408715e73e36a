-- What is known of a change of one entry between its steps, and what each step does.
use Rattle.std.specs.Prelude.{◌≡◌, ℕ, ◌<◌, ◌≤◌, Bool, true, List, [], ◌∷◌, length, None, Some, is_some, Result, Ok, Err}
use Rattle.store_api.specs.{declared.moves.Move.Move, declared.moves.Move.TheVariants.End}
use Rattle.entries.specs.{Pairs.value_of, Index.Index, Index.Told}
use Rattle.world.specs.{State.WorldState, State.IsIndex, Widths.HasKeyLen, Widths.HasValueLen}
use Rattle.row_changes.specs.{Reached.Reached, declared.entry_put.EntryPut.EntryPut, declared.entry_put.PutPhase.PutPhase}
use Rattle.row_changes.specs.{declared.entry_mark.EntryMark.EntryMark, Pairs.RowsStay, Pairs.PutsPair, Pairs.Hinders, Pairs.HindersBehind, Pairs.IsReached}
use Rattle.row_changes.specs.Reached.{Went, Done, Hindered}
use Rattle.row_changes.specs.declared.entry_put.PutPhase.TheVariants.{Look, Unmark}

-- the value of an entry is its mark
abbrev pub unmarked : List ℕ
unmarked = 0 ∷ []

abbrev pub marked : List ℕ
marked = 1 ∷ []

-- the entry is there, or isn't
abbrev pub IsThere : Bool → List ℕ → Index → Type 0
IsThere there entry index = Told (λ pairs. is_some (value_of entry pairs) ≡ there) index

abbrev pub PutPhaseHolds : PutPhase → List ℕ → Index → Type 0
PutPhaseHolds Look entry index = Unit {0}
PutPhaseHolds Unmark entry index = IsThere true entry index

pub record IsPutting (state : WorldState) (put : EntryPut) : Type 0 where
  pub index_is : IsIndex state.schemas put.index
  pub short : length put.entry ≤ 67
  pub key_len : HasKeyLen state.schemas put.index put.entry
  pub value_len : HasValueLen state.schemas put.index unmarked
  pub phase : PutPhaseHolds put.phase put.entry (state.indexes put.index)

-- how many steps are left at most
abbrev pub put_steps : PutPhase → ℕ
put_steps Look = 2
put_steps Unmark = 1

-- the same entry, some steps nearer
pub record GoesOnPutting (old new : WorldState) (put next : EntryPut) : Type 0 where
  pub stays : RowsStay old new
  pub index_is : next.index ≡ put.index
  pub entry_is : next.entry ≡ put.entry
  pub holds : IsPutting new next
  pub nears : put_steps next.phase < put_steps put.phase

abbrev pub PutsEntry : ℕ → WorldState → WorldState → EntryPut → Reached EntryPut → Type 0
PutsEntry actor old new put (Went next) = GoesOnPutting old new put next
PutsEntry actor old new put Done = PutsPair put.index put.entry (Some unmarked) old new
PutsEntry actor old new put (Hindered same why) =
    (same ≡ put) × RowsStay old new × IsPutting new put × HindersBehind actor (old.indexes put.index) (new.indexes put.index) why

-- The step has begun at one world with a look for the entry, and is at another by calls that change nothing. Of the entry nothing is claimed:
-- the call that is to put it tells whether it is there.
pub record HasLooked (actor : ℕ) (put : EntryPut) (start state : WorldState) : Type 0 where
  pub putting : IsPutting start put
  pub phase_is : put.phase ≡ Look
  pub stays : RowsStay start state
  pub reached : IsReached actor (start.indexes put.index) (state.indexes put.index)

-- ---- marking

-- Why an entry was not marked or removed: it isn't there, or the call of its index was hindered.
abbrev pub HindersEntry : ℕ → List ℕ → Index → Index → Move → Type 0
HindersEntry actor entry old new End = Told (λ pairs. value_of entry pairs ≡ None) old
HindersEntry actor entry old new other = Hinders actor old new other

pub record IsMarking (state : WorldState) (mark : EntryMark) : Type 0 where
  pub index_is : IsIndex state.schemas mark.index
  pub value_len : HasValueLen state.schemas mark.index marked

abbrev pub MarksEntry : ℕ → WorldState → WorldState → EntryMark → Result (Unit {0}) Move → Type 0
MarksEntry actor old new mark (Ok done) = PutsPair mark.index mark.entry (Some marked) old new
MarksEntry actor old new mark (Err why) =
    RowsStay old new × IsMarking new mark × HindersEntry actor mark.entry (old.indexes mark.index) (new.indexes mark.index) why
