-- What a world shows of the pages that it is kept in, and how these go on. The frames of all calls say no more of it than this.
use Rattle.std.specs.Prelude.{◌≡◌, ℕ, ◌≤◌, Bool, List, Option, None, Some, IfSome}
use Rattle.store_api.specs.declared.moves.Move.{Move}
use Rattle.store_api.specs.declared.moves.Move.TheVariants.{Full}

-- What is known of the pages of a file as a whole, whichever index or log they are of.
pub record Pages : Type 0 where
  -- how often the disk has failed
  pub faults : ℕ
  -- how many pages the map has as free
  pub free : ℕ
  -- no frame of the pool is clean and unfixed
  pub is_crowded : Bool
  -- whether this page breaks this rule
  pub breaks : ℕ → ℕ → Bool
  -- whether the first actor has a latch that conflicts with the one that the second asks for
  pub stops : ℕ → ℕ → Bool
  -- what an actor has to go
  pub to_go : ℕ → List ℕ

-- the disk's faults are never fewer
pub record IsLater (old new : Pages) : Type 0 where
  pub faults : old.faults ≤ new.faults

-- a world stays in memory, or in pages
abbrev pub StoreGoes : Option Pages → Option Pages → Type 0
StoreGoes None None = Unit {0}
StoreGoes (Some old) (Some new) = IsLater old new
StoreGoes old new = ⊥

-- an answer that pages are lacking says how many the map has as free
abbrev pub CountsFree : Move → Option Pages → Type 0
CountsFree (Full need free) store = IfSome store (λ pages. free ≡ pages.free)
CountsFree other store = Unit {0}
