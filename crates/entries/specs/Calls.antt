-- What each call of an index answers, and what it changes.
use Rattle.std.specs.Prelude.{◌≡◌, ◌≢◌, ◌⊎◌, ℕ, ◌<◌, ◌==◌, Bool, true, false, if◌then◌else◌, List, length, Option, None, Some, IsSome, IsSomeAnd}
use Rattle.store_api.specs.Causes.{Rose}
use Rattle.store_api.specs.declared.moves.Move.{Move}
use Rattle.store_api.specs.declared.moves.Move.TheVariants.{At, End, Done, Step, Latch, Again, Full, TooDeep, Failed, Bad, NoMemory}
use Rattle.entries.specs.Pairs.{Pair, value_of, first_from, first_after, with_pair, without_key}
use Rattle.entries.specs.Index.{Paged, Index, Told, AreKept, IsAsBefore, IsGiven, HasGone, InPages, IsFree, IsHeld}
use Rattle.inno_types.specs.Order.{IsBelow}

-- The call has not ended, by a cause that only an index in pages has. All is as it was.
pub record IsPutOff (why : Paged → Paged → Type 0) (old new : Index) : Type 0 where
  pub all : IsAsBefore old new
  pub cause : InPages why old.paged new.paged

-- After a fault of the disk nobody may know what its pages hold. No pair has changed that is still told.
pub record IsBroken (old new : Index) : Type 0 where
  pub pairs : AreKept old.pairs new.pairs
  pub place : new.place ≡ old.place
  pub awaited : new.awaited ≡ old.awaited
  pub cause : InPages (λ before now. Rose before.faults now.faults) old.paged new.paged

-- Any call may answer so: one more page or latch was dealt with, a latch of another actor stands in the way, the page is
-- not in the pool and finds no frame there, the disk failed, or a page breaks a rule.
abbrev pub Delays : ℕ → Index → Index → Move → Type 0
Delays actor old new Step = IsPutOff (λ before now. IsBelow (now.to_go actor) (before.to_go actor)) old new
Delays actor old new (Latch by) = IsPutOff (λ before now. (by ≢ actor) × (before.stops by actor ≡ true)) old new
Delays actor old new Again = IsPutOff (λ before now. before.is_crowded ≡ true) old new
Delays actor old new Failed = IsBroken old new
Delays actor old new (Bad page rule) = IsPutOff (λ before now. before.breaks page rule ≡ true) old new
Delays actor old new other = ⊥

-- A call that asks for pages may answer so, too: fewer are free than it needs, or the tree would have a ninth level.
abbrev pub LacksPages : Index → Index → Move → Type 0
LacksPages old new (Full need free) = IsPutOff (λ before now. free < need) old new
LacksPages old new TooDeep = IsPutOff (λ before now. before.levels ≡ 8) old new
LacksPages old new other = ⊥

-- A call that changes keys, or is to keep others from it, may answer so, too: another actor is awaited.
pub record IsKeptOff (actor by : ℕ) (old new : Index) : Type 0 where
  pub all : IsAsBefore old new
  pub held : IsHeld actor by old

abbrev pub Seeks : ℕ → List ℕ → Index → Index → Move → Type 0
Seeks actor from old new (At key value) = Told (λ pairs. first_from from pairs ≡ Some (key, value)) old × IsGiven actor (key, value) old new
Seeks actor from old new End = Told (λ pairs. first_from from pairs ≡ None) old × IsAsBefore old new
Seeks actor from old new NoMemory = IsAsBefore old new
Seeks actor from old new other = Delays actor old new other

-- the first pair above that of the actor's place
abbrev pub next_of : Option Pair → List Pair → Option Pair
next_of None pairs = None
next_of (Some pair) pairs = first_after pair.0 pairs

abbrev pub Follows : ℕ → Index → Index → Move → Type 0
Follows actor old new (At key value) = Told (λ pairs. next_of (old.place actor) pairs ≡ Some (key, value)) old × IsGiven actor (key, value) old new
Follows actor old new End = Told (λ pairs. next_of (old.place actor) pairs ≡ None) old × IsAsBefore old new
Follows actor old new NoMemory = IsAsBefore old new
Follows actor old new other = Delays actor old new other

-- a pair that was found is given, or there is none
abbrev pub Gives : ℕ → Option Pair → Index → Index → Move → Type 0
Gives actor (Some pair) old new (At key value) = (pair ≡ (key, value)) × IsGiven actor (key, value) old new
Gives actor None old new End = IsAsBefore old new
Gives actor found old new other = ⊥

-- the value is what was read; no memory is taken
abbrev pub Fetches : ℕ → List ℕ → List ℕ → Index → Index → Move → Type 0
Fetches actor key read old new Done = Told (λ pairs. value_of key pairs ≡ Some read) old × IsAsBefore old new
Fetches actor key read old new End = Told (λ pairs. value_of key pairs ≡ None) old × IsAsBefore old new
Fetches actor key read old new other = Delays actor old new other

-- the key of the pair, if there is one
abbrev pub HasKey : List ℕ → Option Pair → Type 0
HasKey key pair = IsSomeAnd pair (λ p. p.0 ≡ key)

-- The key is what was read; no memory is taken. From now on the actor is awaited.
abbrev pub NextKeys : ℕ → List ℕ → List ℕ → Index → Index → Move → Type 0
NextKeys actor key read old new Done =
    IsFree actor old × Told (λ pairs. HasKey read (first_after key pairs)) old × HasGone (λ before after. after ≡ before) (Some actor) old new
NextKeys actor key read old new End =
    IsFree actor old × Told (λ pairs. first_after key pairs ≡ None) old × HasGone (λ before after. after ≡ before) (Some actor) old new
NextKeys actor key read old new (Latch by) = IsKeptOff actor by old new ⊎ Delays actor old new (Latch by)
NextKeys actor key read old new other = Delays actor old new other

-- A pair is added, or the key's pair is answered, and the actor is no longer awaited.
abbrev pub Inserts : ℕ → List ℕ → List ℕ → Index → Index → Move → Type 0
Inserts actor key value old new Done =
    IsFree actor old × Told (λ pairs. value_of key pairs ≡ None) old × HasGone (λ before after. after ≡ with_pair key value before) None old new
Inserts actor key value old new (At there kept) =
    IsFree actor old × (there ≡ key) × Told (λ pairs. value_of key pairs ≡ Some kept) old × HasGone (λ before after. after ≡ before) None old new
Inserts actor key value old new (Latch by) = IsKeptOff actor by old new ⊎ Delays actor old new (Latch by)
Inserts actor key value old new NoMemory = IsFree actor old × IsAsBefore old new
Inserts actor key value old new (Full need free) = LacksPages old new (Full need free)
Inserts actor key value old new TooDeep = LacksPages old new TooDeep
Inserts actor key value old new other = Delays actor old new other

-- whether the key has a value that is as long
abbrev pub is_as_long : List ℕ → Option (List ℕ) → Bool
is_as_long value None = false
is_as_long value (Some kept) = length kept == length value

-- only a value of another length may want memory or pages
abbrev pub IsResized : List ℕ → List ℕ → Index → Type 0
IsResized key value old = Told (λ pairs. is_as_long value (value_of key pairs) ≡ false) old

abbrev pub Replaces : ℕ → List ℕ → List ℕ → Index → Index → Move → Type 0
Replaces actor key value old new Done =
    Told (λ pairs. IsSome (value_of key pairs)) old × HasGone (λ before after. after ≡ with_pair key value before) old.awaited old new
Replaces actor key value old new End = Told (λ pairs. value_of key pairs ≡ None) old × IsAsBefore old new
Replaces actor key value old new NoMemory = IsResized key value old × IsAsBefore old new
Replaces actor key value old new (Full need free) = IsResized key value old × LacksPages old new (Full need free)
Replaces actor key value old new TooDeep = IsResized key value old × LacksPages old new TooDeep
Replaces actor key value old new other = Delays actor old new other

-- The key's pair goes, and the actor is no longer awaited; no memory is taken.
abbrev pub Removes : ℕ → List ℕ → Index → Index → Move → Type 0
Removes actor key old new Done =
    IsFree actor old × Told (λ pairs. IsSome (value_of key pairs)) old × HasGone (λ before after. after ≡ without_key key before) None old new
Removes actor key old new End =
    IsFree actor old × Told (λ pairs. value_of key pairs ≡ None) old × HasGone (λ before after. after ≡ before) None old new
Removes actor key old new (Latch by) = IsKeptOff actor by old new ⊎ Delays actor old new (Latch by)
Removes actor key old new other = Delays actor old new other

-- pages may be merged, but no pair changes
abbrev pub Tidies : ℕ → Index → Index → Move → Type 0
Tidies actor old new Done = IsAsBefore old new
Tidies actor old new NoMemory = IsAsBefore old new
Tidies actor old new other = Delays actor old new other

-- who is awaited, once this actor isn't
abbrev pub released : ℕ → Option ℕ → Option ℕ
released actor None = None
released actor (Some holder) = if holder == actor then None else Some holder

-- the actor has no place, and is not awaited
pub record Leaves (actor : ℕ) (old new : Index) : Type 0 where
  pub pairs : new.pairs ≡ old.pairs
  pub place : new.place actor ≡ None
  pub others : (other : ℕ) → other ≢ actor → new.place other ≡ old.place other
  pub awaited : new.awaited ≡ released actor old.awaited

abbrev pub is_done : Move → Bool
is_done Done = true
is_done other = false

-- an answer that an index without pages may give
abbrev pub IsWithoutPages : Move → Type 0
IsWithoutPages Step = ⊥
IsWithoutPages Again = ⊥
IsWithoutPages (Full need free) = ⊥
IsWithoutPages TooDeep = ⊥
IsWithoutPages Failed = ⊥
IsWithoutPages (Bad page rule) = ⊥
IsWithoutPages other = Unit {0}

-- the same of a call that no awaited actor keeps off
abbrev pub IsAtOnce : Move → Type 0
IsAtOnce (Latch by) = ⊥
IsAtOnce other = IsWithoutPages other

-- where another actor is awaited, a call on keys is kept off
abbrev pub IsKeptOffBy : ℕ → Move → Type 0
IsKeptOffBy by (Latch holder) = holder ≡ by
IsKeptOffBy by other = ⊥
