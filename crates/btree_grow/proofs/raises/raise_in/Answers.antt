use Rattle.std.proofs.Common.{[], ◌∷◌, arith}
use Rattle.std.proofs.lemmas.Result.{err_from_is_err_and}
use Rattle.btree.proofs.Steps.{asked_one}
use Rattle.btree_change.proofs.Steps.{asked_visited}
use Rattle.btree_grow.proofs.Going.{halt_later, few_visit, looked_on, on_then}
use Rattle.btree_grow.proofs.RaisingIn as raising
use Rattle.btree_grow.proofs.raises.raise_in.Goals as goal

pub returns-in_err-number-clause-reason : goal.returns-in_err-number-clause-reason
returns-in_err-number-clause-reason g c =
    let p = err_from_is_err_and c.from_residual-in_err-number.result c.from_residual-in_err-number.ensures.1 in
    rw (p.1, p.2)
    (halt_later g.M.Mtr.state (c.args.tree.root ∷ []) (g.M.Mtr.state c.args.m.now) (g.M.Mtr.state c.copy_of.new.m) (g.M.Mtr.state c.take_blank.new.m)
    c.in_err-number.field-0.0
    (asked_one c.args.tree.root (g.M.Mtr.state c.args.m.now) (g.M.Mtr.state c.copy_of.new.m) c.copy_of.result c.copy_of.ensures.asks)
    c.take_blank.ensures.goes_on.goes c.in_err-number.ensures.reason)

pub put_raised-requires-clause-ready : goal.put_raised-requires-clause-ready
put_raised-requires-clause-ready g c =
    raising.ready c.args.tree c.in_ok-number.number c.args.level (g.M.Mtr.state c.args.m.now) (g.M.Mtr.state c.copy_of.new.m)
    (g.M.Mtr.state c.take_blank.new.m)
    (asked_one c.args.tree.root (g.M.Mtr.state c.args.m.now) (g.M.Mtr.state c.copy_of.new.m) c.copy_of.result c.copy_of.ensures.asks)
    c.take_blank.ensures.goes_on c.in_ok-number.ensures.taken c.requires.tree c.requires.level c.in_ok-bytes.bytes c.in_ok-bytes.ensures.shown

pub returns-in_err-put_raised-clause-goes_on : goal.returns-in_err-put_raised-clause-goes_on
returns-in_err-put_raised-clause-goes_on g c =
    raising.whole_on c.args.tree c.in_ok-number.number c.args.level (g.M.Mtr.state c.args.m.now) (g.M.Mtr.state c.copy_of.new.m)
    (g.M.Mtr.state c.take_blank.new.m)
    (asked_one c.args.tree.root (g.M.Mtr.state c.args.m.now) (g.M.Mtr.state c.copy_of.new.m) c.copy_of.result c.copy_of.ensures.asks)
    c.take_blank.ensures.goes_on c.in_ok-number.ensures.taken c.requires.tree c.requires.level (g.M.Mtr.state c.put_raised.new.m)
    c.put_raised.ensures.goes_on

pub returns-clause-goes_on : goal.returns-clause-goes_on
returns-clause-goes_on g c =
    raising.whole_on c.args.tree c.in_ok-number.number c.args.level (g.M.Mtr.state c.args.m.now) (g.M.Mtr.state c.copy_of.new.m)
    (g.M.Mtr.state c.take_blank.new.m)
    (asked_one c.args.tree.root (g.M.Mtr.state c.args.m.now) (g.M.Mtr.state c.copy_of.new.m) c.copy_of.result c.copy_of.ensures.asks)
    c.take_blank.ensures.goes_on c.in_ok-number.ensures.taken c.requires.tree c.requires.level (g.M.Mtr.state c.put_raised.new.m)
    c.put_raised.ensures.goes_on

pub returns-clause-raised : goal.returns-clause-raised
returns-clause-raised g c =
    raising.raised c.args.tree c.in_ok-number.number c.args.level (g.M.Mtr.state c.args.m.now) (g.M.Mtr.state c.copy_of.new.m)
    (g.M.Mtr.state c.take_blank.new.m)
    (asked_one c.args.tree.root (g.M.Mtr.state c.args.m.now) (g.M.Mtr.state c.copy_of.new.m) c.copy_of.result c.copy_of.ensures.asks)
    c.take_blank.ensures.goes_on c.in_ok-number.ensures.taken c.requires.tree c.requires.level (g.M.Mtr.state c.put_raised.new.m)
    c.put_raised.ensures.goes_on c.requires.short c.in_ok-put_raised.ensures.raises

pub take_blank-requires-clause-few : goal.take_blank-requires-clause-few
take_blank-requires-clause-few g c =
    omega (
      arith,
      c.requires.few,
      (looked_on c.args.tree.root (g.M.Mtr.state c.args.m.now) (g.M.Mtr.state c.copy_of.new.m)
          (asked_one c.args.tree.root (g.M.Mtr.state c.args.m.now) (g.M.Mtr.state c.copy_of.new.m) c.copy_of.result c.copy_of.ensures.asks)).longer,
    )

pub copy_of-requires : goal.copy_of-requires
copy_of-requires g c = omega (arith, c.requires.few, few_visit c.args.tree.root (g.M.Mtr.state c.args.m.now).visited)

pub returns-clause-dealt_with : goal.returns-clause-dealt_with
returns-clause-dealt_with g c =
    raising.root_known c.args.tree c.in_ok-number.number c.args.level (g.M.Mtr.state c.args.m.now) (g.M.Mtr.state c.copy_of.new.m)
    (g.M.Mtr.state c.take_blank.new.m)
    (asked_one c.args.tree.root (g.M.Mtr.state c.args.m.now) (g.M.Mtr.state c.copy_of.new.m) c.copy_of.result c.copy_of.ensures.asks)
    c.take_blank.ensures.goes_on c.in_ok-number.ensures.taken c.requires.tree c.requires.level (g.M.Mtr.state c.put_raised.new.m)
    c.put_raised.ensures.goes_on
    (asked_visited c.args.tree.root (g.M.Mtr.state c.args.m.now) (g.M.Mtr.state c.copy_of.new.m) c.copy_of.result c.in_ok-bytes.bytes c.in_ok-bytes.was
    c.copy_of.ensures.asks)

pub returns-in_err-number-clause-goes_on : goal.returns-in_err-number-clause-goes_on
returns-in_err-number-clause-goes_on g c =
    on_then 1 1 2 (g.M.Mtr.state c.args.m.now) (g.M.Mtr.state c.copy_of.new.m) (g.M.Mtr.state c.take_blank.new.m) (omega arith)
    (looked_on c.args.tree.root (g.M.Mtr.state c.args.m.now) (g.M.Mtr.state c.copy_of.new.m)
    (asked_one c.args.tree.root (g.M.Mtr.state c.args.m.now) (g.M.Mtr.state c.copy_of.new.m) c.copy_of.result c.copy_of.ensures.asks))
    c.in_err-number.ensures.goes_on
