use Rattle.std.proofs.Common.{sym, subst, arith}
use Rattle.space_map.specs.Taking.{map_pages}
use Rattle.space_map.proofs.Places.{distinct_map_pages}
use Rattle.btree_merge.specs.Going.{GoesOn}
use Rattle.btree_merge.proofs.Going.{length-visit, on_more, consulted_on, marked_on}
use Rattle.btree_merge.proofs.Freed.{freed, freed_on}
use Rattle.btree_merge.proofs.free.free_page.Goals as goal

pub returns-in_err-give-clause-goes_on : goal.returns-in_err-give-clause-goes_on
returns-in_err-give-clause-goes_on g c =
    on_more 4 5 (g.M.Mtr.state c.args.m.now) (g.M.Mtr.state c.give.new.m) (omega arith)
    (consulted_on map_pages (g.M.Mtr.state c.args.m.now) (g.M.Mtr.state c.give.new.m) distinct_map_pages c.in_err-give.ensures.kept)

pub fresh-requires-clause-few : goal.fresh-requires-clause-few
fresh-requires-clause-few g c =
    omega (
      arith,
      length-visit c.args.page (g.M.Mtr.state c.give.new.m).visited,
      (marked_on c.args.page 0 (g.M.Mtr.state c.args.m.now) (g.M.Mtr.state c.give.new.m) c.in_ok-give.ensures.given).longer,
      c.requires.few,
    )

pub returns-in-Ok-clause-goes_on : goal.returns-in-Ok-clause-goes_on
returns-in-Ok-clause-goes_on g c =
    freed_on c.args.page (g.M.Mtr.state c.args.m.now) (g.M.Mtr.state c.give.new.m) c.in_ok-give.ensures.given (g.M.Mtr.state c.fresh.new.self)
    c.requires.beyond c.requires.small c.in-Ok.ensures.made

pub returns-in-Ok-clause-freed : goal.returns-in-Ok-clause-freed
returns-in-Ok-clause-freed g c =
    freed c.args.page (g.M.Mtr.state c.args.m.now) (g.M.Mtr.state c.give.new.m) c.in_ok-give.ensures.given (g.M.Mtr.state c.fresh.new.self)
    c.requires.beyond c.requires.small c.in-Ok.ensures.made

pub returns-in-Err-Again-clause-goes_on : goal.returns-in-Err-Again-clause-goes_on
returns-in-Err-Again-clause-goes_on g c =
    subst (λ s. GoesOn 5 (g.M.Mtr.state c.args.m.now) s) (sym c.in-Err-Again.ensures.refused)
    (on_more 4 5 (g.M.Mtr.state c.args.m.now) (g.M.Mtr.state c.give.new.m) (omega arith)
    (marked_on c.args.page 0 (g.M.Mtr.state c.args.m.now) (g.M.Mtr.state c.give.new.m) c.in_ok-give.ensures.given))

pub returns-in-Err-NoMemory-clause-goes_on : goal.returns-in-Err-NoMemory-clause-goes_on
returns-in-Err-NoMemory-clause-goes_on g c =
    subst (λ s. GoesOn 5 (g.M.Mtr.state c.args.m.now) s) (sym c.in-Err-NoMemory.ensures.refused)
    (on_more 4 5 (g.M.Mtr.state c.args.m.now) (g.M.Mtr.state c.give.new.m) (omega arith)
    (marked_on c.args.page 0 (g.M.Mtr.state c.args.m.now) (g.M.Mtr.state c.give.new.m) c.in_ok-give.ensures.given))
