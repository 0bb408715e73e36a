use Rattle.std.proofs.Common.{◌≡◌, true, sym, subst, arith}
use Rattle.mtr.proofs.Claims.{visited_now}
use Rattle.mtr.specs.Seen.{is_in}
use Rattle.btree_grow.specs.Going.{GoesOn}
use Rattle.btree_grow.proofs.Going.{few_visit, on_more, looked_map_on, marked_on}
use Rattle.btree_grow.proofs.TakenPage.{taken, taken_on}
use Rattle.btree_grow.proofs.taking.take_blank.Goals as goal

pub returns-in_err-page-clause-goes_on : goal.returns-in_err-page-clause-goes_on
returns-in_err-page-clause-goes_on g c = on_more 0 1 _ _ (omega arith) (looked_map_on _ _ c.in_err-page.ensures.kept)

pub fresh-requires-clause-few : goal.fresh-requires-clause-few
fresh-requires-clause-few g c =
    let page = c.in_ok-page.page in
    let after = g.M.Mtr.state c.take.new.m in
    omega (arith, few_visit page after.visited, (marked_on page 1 _ _ c.in_ok-page.ensures.taken.marks).longer, c.requires.few)

pub returns-in-Ok-clause-goes_on : goal.returns-in-Ok-clause-goes_on
returns-in-Ok-clause-goes_on g c =
    taken_on c.in_ok-page.page _ _ c.in_ok-page.ensures.taken _ c.in_ok-page.ensures.counted c.requires.reserved c.in-Ok.ensures.made

pub returns-in-Ok-clause-taken : goal.returns-in-Ok-clause-taken
returns-in-Ok-clause-taken g c = taken c.in_ok-page.page _ _ c.in_ok-page.ensures.taken _ c.in_ok-page.ensures.counted c.requires.reserved c.in-Ok.ensures.made

pub returns-in-Ok-clause-dealt_with : goal.returns-in-Ok-clause-dealt_with
returns-in-Ok-clause-dealt_with g c =
    subst (λ v. is_in c.in_ok-page.page v ≡ true) (sym c.in-Ok.ensures.made.visited_is) (visited_now c.in_ok-page.page (g.M.Mtr.state c.take.new.m).visited)

pub returns-in-Err-Again-clause-goes_on : goal.returns-in-Err-Again-clause-goes_on
returns-in-Err-Again-clause-goes_on g c =
    subst (λ s. GoesOn 1 (g.M.Mtr.state c.args.m.now) s) (sym c.in-Err-Again.ensures.refused)
    (on_more 0 1 _ _ (omega arith) (marked_on c.in_ok-page.page 1 _ _ c.in_ok-page.ensures.taken.marks))

pub returns-in-Err-NoMemory-clause-goes_on : goal.returns-in-Err-NoMemory-clause-goes_on
returns-in-Err-NoMemory-clause-goes_on g c =
    subst (λ s. GoesOn 1 (g.M.Mtr.state c.args.m.now) s) (sym c.in-Err-NoMemory.ensures.refused)
    (on_more 0 1 _ _ (omega arith) (marked_on c.in_ok-page.page 1 _ _ c.in_ok-page.ensures.taken.marks))
