use Rattle.std.proofs.Common.{ℕ, ◌+◌, ◌*◌, List, subst, sym, arith}
use Rattle.btree.proofs.Steps.{asked_one}
use Rattle.btree_grow.specs.Grown.{StandsAbove}
use Rattle.btree_grow.proofs.Below.{lowest_above}
use Rattle.btree_grow.proofs.Going.{on_then, looked_on}
use Rattle.btree_grow.proofs.growing.ask_down.Goals as goal

pub split_down-requires-clause-few : goal.split_down-requires-clause-few
split_down-requires-clause-few g c =
    omega (
      arith,
      c.requires.few,
      (looked_on c.args.top (g.M.Mtr.state c.args.m.now) (g.M.Mtr.state c.ask.new.m)
          (asked_one c.args.top (g.M.Mtr.state c.args.m.now) (g.M.Mtr.state c.ask.new.m) c.ask.result c.ask.ensures)).longer,
    )

pub split_down-requires-clause-above : goal.split_down-requires-clause-above
split_down-requires-clause-above g c = λ told.
    let looked = asked_one c.args.top (g.M.Mtr.state c.args.m.now) (g.M.Mtr.state c.ask.new.m) c.ask.result c.ask.ensures in
    let before = looked.goes.told told in
    subst (λ (f : ℕ → List ℕ). StandsAbove c.args.tree c.args.key.now c.args.full c.args.top f) (sym (looked.same told).seen)
    (lowest_above c.args.tree (g.M.Mtr.state c.args.m.now).seen c.args.key.now c.args.top c.args.full (c.requires.tree before) (c.requires.way before))

pub returns-clause-goes_on : goal.returns-clause-goes_on
returns-clause-goes_on g c =
    on_then 1 (2 * c.args.full) (1 + 2 * c.args.full) (g.M.Mtr.state c.args.m.now) (g.M.Mtr.state c.ask.new.m) (g.M.Mtr.state c.split_down.new.m)
    (omega arith)
    (looked_on c.args.top (g.M.Mtr.state c.args.m.now) (g.M.Mtr.state c.ask.new.m)
    (asked_one c.args.top (g.M.Mtr.state c.args.m.now) (g.M.Mtr.state c.ask.new.m) c.ask.result c.ask.ensures))
    c.split_down.ensures.goes_on
