use Rattle.std.proofs.Common.{◌≡◌, true, ◌∙◌, ap, sym, subst, arith}
use Rattle.std.specs.Prelude.{if◌then◌else◌}
use Rattle.std.specs.Ordering.{is_le}
use Rattle.entries.specs.Pairs.{key_cmp}
use Rattle.mtr.specs.Seen.{is_in}
use Rattle.btree_grow.proofs.Going.{on_then}
use Rattle.btree_grow.proofs.SplitTree.{cut_ready, has_split, one_of_two}
use Rattle.btree_grow.proofs.splits.split_page.Goals as goal

pub put_split-requires-clause-cut : goal.put_split-requires-clause-cut
put_split-requires-clause-cut g c = λ told.
    let ready = c.requires.ready (c.take_blank.ensures.goes_on.goes.told told) in
    cut_ready c.args.tree c.args.key.now ready.0 c.args.cut c.args.above.now c.args.bytes.now (g.M.Mtr.state c.args.m.now).seen
    (g.M.Mtr.state c.take_blank.new.m).seen c.in_ok-number.number ready.1 (c.in_ok-number.ensures.taken told) c.requires.place

pub returns-clause-dealt_with : goal.returns-clause-dealt_with
returns-clause-dealt_with g c =
    subst (λ r. is_in r (g.M.Mtr.state c.put_split.new.m).visited ≡ true) (sym c.half_for.ensures)
    (one_of_two (is_le (key_cmp c.key_at-fence.result.now c.args.key.now)) c.in_ok-number.number c.args.cut.child
    (g.M.Mtr.state c.put_split.new.m).visited
    (c.in_ok-put_split.ensures.goes_on.stay c.in_ok-number.number c.in_ok-number.ensures.dealt_with)
    (c.in_ok-put_split.ensures.goes_on.stay c.args.cut.child (c.in_ok-number.ensures.goes_on.stay c.args.cut.child c.requires.child_dealt_with)))

pub returns-clause-split : goal.returns-clause-split
returns-clause-split g c = λ told n ready.
    let told_taken = c.in_ok-put_split.ensures.goes_on.goes.told told in
    has_split c.args.tree c.args.key.now n c.args.cut c.args.above.now c.args.bytes.now (g.M.Mtr.state c.args.m.now).seen
    (g.M.Mtr.state c.take_blank.new.m).seen c.in_ok-number.number ready (c.in_ok-number.ensures.taken told_taken) c.requires.place
    (g.M.Mtr.state c.put_split.new.m).seen _ c.args.cut.middle (c.in_ok-put_split.ensures.splits told) c.half_for.result
    (c.half_for.ensures ∙ ap (λ f. if is_le (key_cmp f c.args.key.now) then c.in_ok-number.number else c.args.cut.child) c.key_at-fence.ensures)

pub returns-clause-goes_on : goal.returns-clause-goes_on
returns-clause-goes_on g c =
    on_then 1 0 1 (g.M.Mtr.state c.args.m.now) (g.M.Mtr.state c.take_blank.new.m) (g.M.Mtr.state c.put_split.new.m) (omega arith)
    c.in_ok-number.ensures.goes_on c.in_ok-put_split.ensures.goes_on
