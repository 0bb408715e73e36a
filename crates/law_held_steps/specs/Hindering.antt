-- For what a change is given up over a store at hand.
use Rattle.std.specs.Prelude.{◌<◌}
use Rattle.store_api.specs.declared.moves.Move.{Move}
use Rattle.store_api.specs.declared.moves.Move.TheVariants as moves
use Rattle.shared_lists.specs.declared.answers.Hindrance.{Hindrance}
use Rattle.shared_lists.specs.declared.answers.Hindrance.TheVariants.{NoMemory, Full, TooDeep}

-- A call was hindered for want of memory, of pages or of levels. Pages are lacking only where fewer are free than are needed.
abbrev pub IsForWant : Move → Type 0
IsForWant moves.NoMemory = Unit {0}
IsForWant (moves.Full need free) = free < need
IsForWant moves.TooDeep = Unit {0}
IsForWant other = ⊥

-- what a change is given up for where its call was hindered so
abbrev pub hindrance_of : Move → Hindrance
hindrance_of (moves.Full need free) = Full need free
hindrance_of moves.TooDeep = TooDeep
hindrance_of other = NoMemory
