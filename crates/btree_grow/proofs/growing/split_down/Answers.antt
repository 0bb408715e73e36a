use Rattle.std.proofs.Common.{◌≡◌, suc, ◌+◌, ◌-◌, ◌*◌, sym, subst, arith}
use Rattle.stored_pages.specs.Words.{u32_at}
use Rattle.store_api.specs.declared.visits.Visit.{Visit}
use Rattle.btree_grow.specs.Going.{IsStop}
use Rattle.btree_grow.specs.Grown.{StandsAbove, HasGrown}
use Rattle.btree_grow.proofs.Free.{none_free}
use Rattle.btree_grow.proofs.Going.{on_then, nothing_on, stop_after}
use Rattle.btree_grow.proofs.Together.{grown_then, grown_none}
use Rattle.btree_grow.proofs.growing.split_down.Goals as goal

pub loop-taken-init : goal.loop-taken-init
loop-taken-init g c = record {
  on = nothing_on 0 (g.M.Mtr.state c.args.m.now);
  dealt_with = c.requires.dealt_with;
  grown = λ told n sum.
      grown_none c.args.tree c.args.key.now n c.args.top (g.M.Mtr.state c.args.m.now).seen
      (let is : c.args.full ≡ n = omega (arith, sum) in
      subst (λ k. StandsAbove c.args.tree c.args.key.now k c.args.top (g.M.Mtr.state c.args.m.now).seen) is
      (c.requires.above told));
}

pub split_below-requires-clause-above : goal.split_below-requires-clause-above
split_below-requires-clause-above g c = λ told.
    let rest = c.args.full - suc c.loop-taken.taken in
    (rest, (c.loop-taken.invariant.grown told (suc rest) (omega (arith, c.loop-taken-test.true))).above)

pub returns-in-Err-Full-clause-made : goal.returns-in-Err-Full-clause-made
returns-in-Err-Full-clause-made g c = λ told.
    let b = g.M.Mtr.state c.loop-taken.m in
    let told_b = c.split_below.ensures.goes_on.goes.told told in
    let halt = rw c.in-Err-Full.field-0-is at c.in-Err-Full.ensures.reason in
    let rest = c.args.full - suc c.loop-taken.taken in
    let grown = c.loop-taken.invariant.grown told_b (suc rest) (omega (arith, c.loop-taken-test.true)) in
    let none = none_free b.seen (u32_at 44 (b.seen 0)) (λ page below free. halt told page (record { within = below; unmarked = free })) in
    let fewer = grown.fewer in
    (omega (arith, fewer, none), c.loop-taken-test.true)

pub returns-in-Err-Visit-clause-reason : goal.returns-in-Err-Visit-clause-reason
returns-in-Err-Visit-clause-reason g c =
    let stop = rw c.in-Err-Visit.field-0-is at c.in-Err-Visit.ensures.reason in
    let rest = c.args.full - suc c.loop-taken.taken in
    subst (λ (why : Visit). IsStop g.M.Mtr.state (g.M.Mtr.state c.args.m.now) (g.M.Mtr.state c.split_below.new.m) why) (sym c.in-Err-Visit.why-is)
    (stop_after g.M.Mtr.state (2 * c.loop-taken.taken) (g.M.Mtr.state c.args.m.now) (g.M.Mtr.state c.loop-taken.m) (g.M.Mtr.state c.split_below.new.m)
    c.in-Err-Visit.why c.loop-taken.invariant.on
    (λ told. (c.loop-taken.invariant.grown told (suc rest) (omega (arith, c.loop-taken-test.true))).header)
    c.split_below.ensures.goes_on.goes stop)

pub loop-taken-preserved : goal.loop-taken-preserved
loop-taken-preserved g c = record {
  on =
      on_then (2 * c.loop-taken.taken) 2 (2 * (c.loop-taken.taken + 1)) (g.M.Mtr.state c.args.m.now) (g.M.Mtr.state c.loop-taken.m)
      (g.M.Mtr.state c.split_below.new.m) (omega arith) c.loop-taken.invariant.on c.split_below.ensures.goes_on;
  dealt_with = c.in-Ok.ensures.dealt_with;
  grown = λ told n sum.
      let told_b = c.split_below.ensures.goes_on.goes.told told in
      let before = c.loop-taken.invariant.grown told_b (suc n) (omega (arith, sum)) in
      grown_then c.args.tree c.args.key.now c.loop-taken.taken 1 (c.loop-taken.taken + 1) (suc n) n c.loop-taken.page c.in-Ok.half
      (g.M.Mtr.state c.args.m.now).seen (g.M.Mtr.state c.loop-taken.m).seen (g.M.Mtr.state c.split_below.new.m).seen (omega arith) before
      (c.in-Ok.ensures.split told n before.above);
}

pub returns-clause-made : goal.returns-clause-made
returns-clause-made g c = λ told.
    let all : c.loop-taken.taken ≡ c.args.full = omega (arith, c.loop-taken-test.false, c.loop-taken.auto.taken-end) in
    subst (λ k. HasGrown c.args.tree c.args.key.now k 0 c.loop-taken.page (g.M.Mtr.state c.args.m.now).seen (g.M.Mtr.state c.loop-taken.m).seen) all
    (c.loop-taken.invariant.grown told 0 (omega (arith, all)))
