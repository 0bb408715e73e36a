-- What a request for a latch is answered.
use Rattle.std.specs.Prelude.{◌≡◌, List}
use Rattle.latch_table.specs.declared.latches.Latch.{Latch}
use Rattle.latch_table.specs.declared.latches.Latched.{Latched}
use Rattle.latch_table.specs.declared.latches.Latched.TheVariants.{Granted, Held}
use Rattle.latch_table.specs.Held.{IsFree, HoldsAgainst, with_latch}

-- It is granted where nobody holds the target in a mode that conflicts. Else one who does is named, and nothing changes.
abbrev pub Answers : Latch → List Latch → List Latch → Latched → Type 0
Answers asked old new Granted = IsFree asked old × (new ≡ with_latch asked old)
Answers asked old new (Held by) = HoldsAgainst by asked old × (new ≡ old)
