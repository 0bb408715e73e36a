use Rattle.std.proofs.Common.{ℕ, List, sym, subst}
use Rattle.std.proofs.lemmas.Result.{err_from_is_err_and, IfOk-weaker}
use Rattle.btree.specs.declared.leaf.Met.{Met}
use Rattle.btree.specs.declared.leaf.Met.TheVariants.{Here, Beyond}
use Rattle.btree.specs.Sound.{IsSoundTree}
use Rattle.btree.specs.Walks.{IsReadableLeaf, Meets, AreRest}
use Rattle.btree.proofs.Passed.{held_readable, leaf_here, leaf_rest, beyond_shows}
use Rattle.btree.proofs.Steps.{gives_up_then, hindered_by}
use Rattle.btree.proofs.walking.find_first.Goals as goal

pub returns-in_err-place-clause-reason : goal.returns-in_err-place-clause-reason
returns-in_err-place-clause-reason g c =
    let pages = (g.M.Mtr.state c.args.m.now).standing in
    let leaf = c.in_ok-leaf.leaf in
    let p = err_from_is_err_and c.from_residual-in_err-place.result c.from_residual-in_err-place.ensures.1 in
    rw (p.1, p.2)
    (hindered_by leaf (IsReadableLeaf c.args.tree) _ _ _ c.in_err-place.field-0.0 c.in_ok-leaf.ensures.reads c.in_err-place.ensures.reads
    (λ told. held_readable c.args.tree pages (c.requires.tree (c.in_ok-leaf.ensures.reads.goes.told told)) c.args.bound c.args.key.now leaf
    (c.in_ok-leaf.ensures.holds told)) c.in_err-place.ensures.reason)

pub first_right-requires-clause-tree : goal.first_right-requires-clause-tree
first_right-requires-clause-tree g c = λ told.
    let both = gives_up_then _ _ _ c.in_ok-leaf.ensures.reads c.in_ok-place.ensures.reads in
    subst (λ (f : ℕ → List ℕ). IsSoundTree c.args.tree f) (sym (both.standing told)) (c.requires.tree (both.goes.told told))

pub first_right-requires-clause-rest : goal.first_right-requires-clause-rest
first_right-requires-clause-rest g c = λ told.
    let pages = (g.M.Mtr.state c.args.m.now).standing in
    let leaf = c.in_ok-leaf.leaf in
    let before = c.in_ok-place.ensures.reads.goes.told told in
    let both = gives_up_then _ _ _ c.in_ok-leaf.ensures.reads c.in_ok-place.ensures.reads in
    let holds = c.in_ok-leaf.ensures.holds before in
    let there = subst (λ (d : Met). Meets c.args.tree c.args.bound c.args.key.now ((g.M.Mtr.state c.leaf_of.new.m).standing leaf) d) c.in-Beyond.is
    (c.in_ok-place.ensures.meets told) in
    let meets = subst (λ (f : ℕ → List ℕ). Meets c.args.tree c.args.bound c.args.key.now (f leaf) (Beyond c.in-Beyond.right))
    (c.in_ok-leaf.ensures.reads.standing before) there in (
      holds.ys,
      subst (λ (f : ℕ → List ℕ). AreRest c.args.tree f c.in-Beyond.right holds.ys) (sym (both.standing told))
          (leaf_rest c.args.tree pages (c.requires.tree (both.goes.told told)) c.args.bound c.args.key.now leaf holds c.in-Beyond.right meets),
    )

pub returns-in-Here-clause-first : goal.returns-in-Here-clause-first
returns-in-Here-clause-first g c = λ told.
    let pages = (g.M.Mtr.state c.args.m.now).standing in
    let leaf = c.in_ok-leaf.leaf in
    let before = c.in_ok-place.ensures.reads.goes.told told in
    let there = subst (λ (d : Met). Meets c.args.tree c.args.bound c.args.key.now ((g.M.Mtr.state c.leaf_of.new.m).standing leaf) d) c.in-Here.is
    (c.in_ok-place.ensures.meets told) in
    let meets = subst (λ (f : ℕ → List ℕ). Meets c.args.tree c.args.bound c.args.key.now (f leaf) (Here c.in-Here.place))
    (c.in_ok-leaf.ensures.reads.standing before) there in
    leaf_here c.args.tree pages (c.requires.tree (c.in_ok-leaf.ensures.reads.goes.told before)) c.args.bound c.args.key.now leaf
    (c.in_ok-leaf.ensures.holds before) c.in-Here.place meets

pub returns-in-Beyond-clause-first : goal.returns-in-Beyond-clause-first
returns-in-Beyond-clause-first g c =
    let pages = (g.M.Mtr.state c.args.m.now).standing in
    let leaf = c.in_ok-leaf.leaf in
    let both = gives_up_then _ _ _ c.in_ok-leaf.ensures.reads c.in_ok-place.ensures.reads in
    IfOk-weaker c.first_right.result _ _ (λ found shown told.
    let after = c.first_right.ensures.reads.goes.told told in
    let before = c.in_ok-place.ensures.reads.goes.told after in
    let there = subst (λ (d : Met). Meets c.args.tree c.args.bound c.args.key.now ((g.M.Mtr.state c.leaf_of.new.m).standing leaf) d) c.in-Beyond.is
    (c.in_ok-place.ensures.meets after) in
    let meets = subst (λ (f : ℕ → List ℕ). Meets c.args.tree c.args.bound c.args.key.now (f leaf) (Beyond c.in-Beyond.right))
    (c.in_ok-leaf.ensures.reads.standing before) there in
    beyond_shows c.args.tree pages (c.requires.tree (both.goes.told after)) c.args.bound c.args.key.now leaf (c.in_ok-leaf.ensures.holds before)
    (g.M.Mtr.state c.meet_on.new.m).standing c.in-Beyond.right found (both.standing after) meets (shown told)) c.first_right.ensures.first
