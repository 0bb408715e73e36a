use Rattle.std.proofs.Common.{arith, length}
use Rattle.std.specs.Prelude.{◌≤◌, ◌+◌, vec_capacity}
use Rattle.log_format.specs.declared.group.Record.TheVariants.{Put}
use Rattle.mini_txn.proofs.Kept.{one_more, length-put}
use Rattle.mini_txn.proofs.edits.Edits.add_put.Goals as goal

pub invariant_of-self : goal.invariant_of-self
invariant_of-self c =
    let i = c.self.inside in
    let some : 5 ≤ length c.args.bytes.now + 9 = omega arith in
    (one_more i.count i.bytes.items (vec_capacity i.bytes) c.args.self.now c.self.invariant c.self.view_is
    (Put c.args.page c.args.at c.args.bytes.now) (length c.args.bytes.now + 9) (c.ranges.page.fits, c.requires.begins, c.requires.ends)
    (length-put c.args.page c.args.at c.args.bytes.now) some c.requires.room
    c.put_piece.new.out.items (vec_capacity c.put_piece.new.out) c.put_piece.ensures.items (omega (arith, c.self.invariant.room, c.put_piece.ensures.grows))).0

pub returns : goal.returns
returns c =
    let i = c.self.inside in
    let some : 5 ≤ length c.args.bytes.now + 9 = omega arith in
    (one_more i.count i.bytes.items (vec_capacity i.bytes) c.args.self.now c.self.invariant c.self.view_is
    (Put c.args.page c.args.at c.args.bytes.now) (length c.args.bytes.now + 9) (c.ranges.page.fits, c.requires.begins, c.requires.ends)
    (length-put c.args.page c.args.at c.args.bytes.now) some c.requires.room
    c.put_piece.new.out.items (vec_capacity c.put_piece.new.out) c.put_piece.ensures.items (omega (arith, c.self.invariant.room, c.put_piece.ensures.grows))).1
