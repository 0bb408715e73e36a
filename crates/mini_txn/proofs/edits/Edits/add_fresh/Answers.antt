use Rattle.std.proofs.Common.{arith}
use Rattle.std.specs.Prelude.{◌≤◌, vec_capacity}
use Rattle.log_format.specs.declared.group.Record.TheVariants.{Fresh}
use Rattle.mini_txn.proofs.Kept.{one_more, length-fresh}
use Rattle.mini_txn.proofs.edits.Edits.add_fresh.Goals as goal

pub invariant_of-self : goal.invariant_of-self
invariant_of-self c =
    let i = c.self.inside in
    let some : 5 ≤ 5 = omega arith in
    (one_more i.count i.bytes.items (vec_capacity i.bytes) c.args.self.now c.self.invariant c.self.view_is (Fresh c.args.page) 5 c.ranges.page.fits
    (length-fresh c.args.page) some c.requires
    c.put_fresh.new.out.items (vec_capacity c.put_fresh.new.out) c.put_fresh.ensures.items (omega (arith, c.self.invariant.room, c.put_fresh.ensures.grows))).0

pub returns : goal.returns
returns c =
    let i = c.self.inside in
    let some : 5 ≤ 5 = omega arith in
    (one_more i.count i.bytes.items (vec_capacity i.bytes) c.args.self.now c.self.invariant c.self.view_is (Fresh c.args.page) 5 c.ranges.page.fits
    (length-fresh c.args.page) some c.requires
    c.put_fresh.new.out.items (vec_capacity c.put_fresh.new.out) c.put_fresh.ensures.items (omega (arith, c.self.invariant.room, c.put_fresh.ensures.grows))).1
