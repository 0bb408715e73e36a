-- What contracts see of an index, and what a call leaves of it as it was.
use Rattle.std.specs.Prelude.{◌≡◌, ◌≢◌, ℕ, ◌≤◌, Bool, List, length, Option, None, Some, IfSome}
use Rattle.entries.specs.Pairs.{Pair}

-- What an index shows that is kept in pages: what its answers about pages rest on. How many pages are free is known of the
-- whole file alone.
pub record Paged : Type 0 where
  -- how often the disk has failed
  pub faults : ℕ
  -- how many levels the tree has
  pub levels : ℕ
  -- how long each key is, and how long each value
  pub key_len : ℕ
  pub value_len : ℕ
  -- no frame of the pool is clean and unfixed
  pub is_crowded : Bool
  -- whether this page breaks this rule
  pub breaks : ℕ → ℕ → Bool
  -- whether the first actor has a latch that conflicts with the one that the second asks for
  pub stops : ℕ → ℕ → Bool
  -- what an actor has to go
  pub to_go : ℕ → List ℕ

pub record Index : Type 0 where
  -- The pairs, where they are told: what the pages of a file hold nobody knows.
  pub pairs : Option (List Pair)
  -- the pair that an actor was given last
  pub place : ℕ → Option Pair
  -- the actor whose next insert or remove is awaited since its next_key
  pub awaited : Option ℕ
  -- An index in memory has no pages.
  pub paged : Option Paged

-- the pairs have P, if they are told
abbrev pub Told : (List Pair → Type 0) → Index → Type 0
Told P index = IfSome index.pairs P

-- The pairs have gone on by a step, if they are still told. Pairs that weren't told are not told later.
abbrev pub Goes : (List Pair → List Pair → Type 0) → Option (List Pair) → Option (List Pair) → Type 0
Goes step old None = Unit {0}
Goes step None (Some new) = ⊥
Goes step (Some old) (Some new) = step old new

abbrev pub AreKept : Option (List Pair) → Option (List Pair) → Type 0
AreKept old new = Goes (λ before after. after ≡ before) old new

-- Nothing has changed but what an actor has to go.
pub record IsAsBefore (old new : Index) : Type 0 where
  pub pairs : AreKept old.pairs new.pairs
  pub place : new.place ≡ old.place
  pub awaited : new.awaited ≡ old.awaited

-- the actor was given a pair, which is its place now
pub record IsGiven (actor : ℕ) (pair : Pair) (old new : Index) : Type 0 where
  pub pairs : AreKept old.pairs new.pairs
  pub place : new.place actor ≡ Some pair
  pub others : (other : ℕ) → other ≢ actor → new.place other ≡ old.place other
  pub awaited : new.awaited ≡ old.awaited

-- the pairs have gone on by a step, and who is awaited now is this; each actor has its place
pub record HasGone (step : List Pair → List Pair → Type 0) (holder : Option ℕ) (old new : Index) : Type 0 where
  pub pairs : Goes step old.pairs new.pairs
  pub place : new.place ≡ old.place
  pub awaited : new.awaited ≡ holder

-- Of an index in pages, or of a whole store, before and after a call. It says that it is in pages.
abbrev pub InPages : {P : Type 0} → (P → P → Type 0) → Option P → Option P → Type 0
InPages why (Some old) (Some new) = why old new
InPages why old new = ⊥

-- The disk's faults are never fewer, and keys and values are as long as before.
pub record IsLater (old new : Paged) : Type 0 where
  pub faults : old.faults ≤ new.faults
  pub key_len : new.key_len ≡ old.key_len
  pub value_len : new.value_len ≡ old.value_len

-- an index stays in memory, or in pages
abbrev pub GoesOn : Option Paged → Option Paged → Type 0
GoesOn None None = Unit {0}
GoesOn (Some old) (Some new) = IsLater old new
GoesOn old new = ⊥

-- A key or a value may stand there: in pages all keys are as long as one another, and so are all values.
abbrev pub HasKeyWidth : List ℕ → Index → Type 0
HasKeyWidth key index = IfSome index.paged (λ p. length key ≡ p.key_len)

abbrev pub HasValueWidth : List ℕ → Index → Type 0
HasValueWidth value index = IfSome index.paged (λ p. length value ≡ p.value_len)

-- no other actor is awaited
abbrev pub IsFree : ℕ → Index → Type 0
IsFree actor index = IfSome index.awaited (λ holder. holder ≡ actor)

-- another actor is awaited
pub record IsHeld (actor by : ℕ) (index : Index) : Type 0 where
  pub awaited : index.awaited ≡ Some by
  pub another : by ≢ actor
