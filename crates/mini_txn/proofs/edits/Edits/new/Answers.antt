use Rattle.std.proofs.Common.{arith}
use Rattle.std.specs.Prelude.{vec_capacity}
use Rattle.mini_txn.proofs.Kept.{no_more}
use Rattle.mini_txn.proofs.edits.Edits.new.Goals as goal

pub invariant_of-result : goal.invariant_of-result
invariant_of-result c =
    let made = c.in_ok-with_capacity.field-0 in
    let told = c.in_ok-with_capacity.ensures in
    (no_more made.items (vec_capacity made) told.items (omega (arith, told.exact))).0

pub returns : goal.returns
returns c =
    let made = c.in_ok-with_capacity.field-0 in
    let told = c.in_ok-with_capacity.ensures in
    (no_more made.items (vec_capacity made) told.items (omega (arith, told.exact))).1
