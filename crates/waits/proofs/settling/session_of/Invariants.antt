use Rattle.std.proofs.Common.{ℕ, ◌<◌}
use Rattle.waits.specs.Falls.{IsOpenAt}
use Rattle.waits.proofs.settling.session_of.Given as goal

-- none of the sessions before has it
abbrev pub invariant-loop-session : goal.invariant-loop-session
invariant-loop-session g l = (k : ℕ) → k < l.session → IsOpenAt (g.W.World.state l.world) k l.txn → ⊥
