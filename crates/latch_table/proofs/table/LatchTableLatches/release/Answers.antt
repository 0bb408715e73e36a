use Rattle.std.proofs.Common.{subst, sym, arith}
use Rattle.latch_table.specs.Held.{AreSound}
use Rattle.latch_table.proofs.Soundness.{sound_without}
use Rattle.latch_table.proofs.table.LatchTableLatches.release.Goals as goal

pub invariant_of-self : goal.invariant_of-self
invariant_of-self c =
    let sound = sound_without _ c.self.invariant.0 c.args.actor c.args.target in
    (subst AreSound (sym c.give_back.ensures.items) sound, omega (arith, c.give_back.ensures.capacity, c.self.invariant.1))

pub returns-clause-apart : goal.returns-clause-apart
returns-clause-apart c = (subst AreSound (sym c.give_back.ensures.items) (sound_without _ c.self.invariant.0 c.args.actor c.args.target)).apart
