use Rattle.std.proofs.Common.{◌≡◌, ℕ, ◌<◌, false, Some}
use Rattle.std.specs.Prelude.{slice_get}
use Rattle.world.specs.State.{Session}
use Rattle.world_parts.specs.Rooms.{is_of}
use Rattle.world_parts.proofs.holders.holder.Given as goal

abbrev pub invariant-loop-s : goal.invariant-loop-s
invariant-loop-s l = (k : ℕ) (session : Session) → k < l.s → slice_get l.sessions k ≡ Some session → is_of l.txn session.work ≡ false
