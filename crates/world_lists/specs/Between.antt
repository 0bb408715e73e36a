-- What holds of the lists between calls: beside what is held of a store, nobody is awaited at any index.
use Rattle.std.specs.Prelude.{ℕ, List, Option}
use Rattle.world.specs.State.{WorldState}
use Rattle.row_changes.specs.Awaited.{AwaitsNobody}
use Rattle.desks.specs.{declared.desk.Desk.Desk, Desks.Store, Holding.IsHeld}

abbrev pub store_of : WorldState → Option ℕ → List Desk → ℕ → Store
store_of world writer desks cuts = record { world = world; writer = writer; desks = desks; cuts = cuts }

pub record IsKept (store : Store) : Type 0 where
  pub held : IsHeld store
  pub awaits : AwaitsNobody store.world
