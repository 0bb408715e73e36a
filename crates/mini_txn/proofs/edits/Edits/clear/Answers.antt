use Rattle.std.proofs.Common.{arith}
use Rattle.std.specs.Prelude.{vec_capacity}
use Rattle.mini_txn.proofs.Kept.{no_more}
use Rattle.mini_txn.proofs.edits.Edits.clear.Goals as goal

pub invariant_of-self : goal.invariant_of-self
invariant_of-self c = (no_more c.clear.new.self.items (vec_capacity c.clear.new.self) c.clear.ensures.items
    (omega (arith, c.self.invariant.room, c.clear.ensures.capacity))).0

pub returns : goal.returns
returns c = (no_more c.clear.new.self.items (vec_capacity c.clear.new.self) c.clear.ensures.items
    (omega (arith, c.self.invariant.room, c.clear.ensures.capacity))).1
