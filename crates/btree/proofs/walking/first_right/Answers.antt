use Rattle.std.proofs.Common.{ℕ, List, subst, arith}
use Rattle.std.proofs.lemmas.Result.{err_from_is_err_and}
use Rattle.btree.specs.declared.leaf.Met.{Met}
use Rattle.btree.specs.declared.leaf.Met.TheVariants.{Here, Beyond}
use Rattle.btree.specs.Walks.{IsReadableLeaf, Begins}
use Rattle.btree.proofs.Passed.{walk_begins, at_readable, at_end, at_here, at_beyond, not_endless}
use Rattle.btree.proofs.Steps.{gives_up_none, gives_up_then, idle_after, hindered_by}
use Rattle.btree.proofs.walking.first_right.Goals as goal

pub loop-init : goal.loop-init
loop-init g c = record {
  reads = gives_up_none (g.M.Mtr.state c.args.m.now) c.requires.idle;
  idle = c.requires.idle;
  passed = λ told ys rest. walk_begins c.args.tree (g.M.Mtr.state c.args.m.now).standing (c.requires.tree told) c.args.from ys rest;
}

pub returns-then-page-eq0-clause-first : goal.returns-then-page-eq0-clause-first
returns-then-page-eq0-clause-first g c = λ told ys rest.
    let so_far = c.loop.invariant in
    at_end c.args.tree (g.M.Mtr.state c.args.m.now).standing (c.requires.tree (so_far.reads.goes.told told)) ys c.loop.counter c.loop.page
    (so_far.passed told ys rest) c.if-page-eq0.true

pub returns-in_err-place-clause-reason : goal.returns-in_err-place-clause-reason
returns-in_err-place-clause-reason g c =
    let pages = (g.M.Mtr.state c.args.m.now).standing in
    let so_far = c.loop.invariant in
    let p = err_from_is_err_and c.from_residual.result c.from_residual.ensures.1 in
    rw (p.1, p.2)
    (hindered_by c.loop.page (IsReadableLeaf c.args.tree) _ _ _ c.in_err-place.field-0.0 so_far.reads c.in_err-place.ensures.reads
    (λ told.
    let before = so_far.reads.goes.told told in
    let rest = c.requires.rest before in
    at_readable c.args.tree pages (c.requires.tree before) rest.0 c.loop.counter c.loop.page (so_far.passed told rest.0 rest.1) c.if-page-eq0.false)
    c.in_err-place.ensures.reason)

pub returns-in-Here-clause-first : goal.returns-in-Here-clause-first
returns-in-Here-clause-first g c = λ told ys rest.
    let pages = (g.M.Mtr.state c.args.m.now).standing in
    let so_far = c.loop.invariant in
    let before = c.in_ok-place.ensures.reads.goes.told told in
    let begins = subst (λ (d : Met). Begins ((g.M.Mtr.state c.loop.m).standing c.loop.page) d) c.in-Here.is (c.in_ok-place.ensures.begins told) in
    at_here c.args.tree pages (c.requires.tree (so_far.reads.goes.told before)) ys c.loop.counter c.loop.page (so_far.passed before ys rest) c.in-Here.place
    c.if-page-eq0.false
    (subst (λ (f : ℕ → List ℕ). Begins (f c.loop.page) (Here c.in-Here.place)) (so_far.reads.standing before) begins)

pub loop-preserved : goal.loop-preserved
loop-preserved g c =
    let pages = (g.M.Mtr.state c.args.m.now).standing in
    let so_far = c.loop.invariant in
    let step = c.in_ok-place.ensures in
    record {
      reads = gives_up_then _ _ _ so_far.reads step.reads;
      idle = idle_after _ _ step.reads;
      passed = λ told ys rest.
          let before = step.reads.goes.told told in
          let begins = subst (λ (d : Met). Begins ((g.M.Mtr.state c.loop.m).standing c.loop.page) d) c.in-Beyond.is (step.begins told) in
          at_beyond c.args.tree pages (c.requires.tree (so_far.reads.goes.told before)) ys c.loop.counter c.loop.page (so_far.passed before ys rest)
          c.in-Beyond.right c.if-page-eq0.false
          (subst (λ (f : ℕ → List ℕ). Begins (f c.loop.page) (Beyond c.in-Beyond.right)) (so_far.reads.standing before) begins);
    }

pub returns-clause-reason : goal.returns-clause-reason
returns-clause-reason g c = λ told.
    let so_far = c.loop.invariant in
    let before = so_far.reads.goes.told told in
    let rest = c.requires.rest before in
    absurd (not_endless c.args.tree (g.M.Mtr.state c.args.m.now).standing (c.requires.tree before) rest.0 c.loop.counter c.loop.page
    (so_far.passed told rest.0 rest.1) c.args.from rest.1 (omega arith))
