use Rattle.std.proofs.Common.{◌≡◌, ◌+◌, ◌-◌, arith}
use Rattle.entries.proofs.Edits.{on_err}
use Rattle.tree_check.proofs.Complete.{root_row, has_row_below}
use Rattle.tree_check.proofs.Descended.{descent_begins, goes_down, descent_ends, top_node, top_laid_out, row_above}
use Rattle.tree_check.proofs.whole.check_tree.Goals as goal

pub loop-down-init : goal.loop-down-init
loop-down-init c = record {
  within = omega arith;
  came = descent_begins c.args.tree c.args.pages.now c.in_ok-height.height c.in_ok-height.ensures.row;
}

pub bounds-pages-top : goal.bounds-pages-top
bounds-pages-top c =
    (top_node c.args.tree c.args.pages.now c.in_ok-height.height c.loop-down.down c.loop-down.top c.loop-down.invariant.came).within

pub child_at-first-requires-clause-laid_out : goal.child_at-first-requires-clause-laid_out
child_at-first-requires-clause-laid_out c =
    top_laid_out c.args.tree c.args.pages.now c.in_ok-height.height c.loop-down.down c.loop-down.top c.loop-down.invariant.came

pub child_at-first-requires-clause-inner : goal.child_at-first-requires-clause-inner
child_at-first-requires-clause-inner c = λ none.
    let is = top_node c.args.tree c.args.pages.now c.in_ok-height.height c.loop-down.down c.loop-down.top c.loop-down.invariant.came in
    omega (arith, none, is.node.stands.level_is, c.loop-down-test.true)

pub child_at-first-requires-clause-place : goal.child_at-first-requires-clause-place
child_at-first-requires-clause-place c =
    let is = top_node c.args.tree c.args.pages.now c.in_ok-height.height c.loop-down.down c.loop-down.top c.loop-down.invariant.came in
    is.node.stands.some (λ none. omega (arith, none, c.loop-down-test.true))

pub check_level-requires : goal.check_level-requires
check_level-requires c =
    let came = c.loop-down.invariant.came in
    record {
      file = c.requires.file;
      some = c.requires.some;
      above =
          record {
            us = came.us;
            checked =
                row_above c.args.tree c.args.pages.now c.in_ok-height.height c.loop-down.down c.loop-down.top (c.in_ok-height.height - 1 - c.loop-down.down)
                (omega (arith, c.loop-down-test.true)) came;
          };
    }

pub loop-down-preserved : goal.loop-down-preserved
loop-down-preserved c =
    let came = c.loop-down.invariant.came in
    let level = c.in_ok-height.height - 1 - c.loop-down.down in
    let level_is : level + 1 ≡ c.in_ok-height.height - c.loop-down.down = omega (arith, c.loop-down-test.true) in
    record {
      within = omega (arith, c.loop-down-test.true);
      came =
          goes_down c.args.tree c.args.pages.now c.in_ok-height.height c.loop-down.down c.loop-down.top c.child_at-first.result level c.loop-down-test.true
          level_is came (c.in_ok-check_level.ensures.rows came.us
          (row_above c.args.tree c.args.pages.now c.in_ok-height.height c.loop-down.down c.loop-down.top level level_is came));
    }

pub returns-clause-tree : goal.returns-clause-tree
returns-clause-tree c =
    descent_ends c.args.tree c.args.pages.now c.requires.some c.in_ok-height.height c.loop-down.down c.loop-down.top
    (omega (arith, c.loop-down-test.false, c.loop-down.invariant.within)) c.loop-down.invariant.came c.requires.file

pub returns-in_err-height-clause-refused : goal.returns-in_err-height-clause-refused
returns-in_err-height-clause-refused c =
    on_err c.from_residual.result (λ placed files.
    c.in_err-height.ensures.refused (root_row c.args.tree c.args.pages.now c.told-pages c.requires.file placed files))

pub returns-in_err-check_level-clause-refused : goal.returns-in_err-check_level-clause-refused
returns-in_err-check_level-clause-refused c =
    on_err c.from_residual-in_err-check_level.result (λ placed files.
    let came = c.loop-down.invariant.came in
    let level = c.in_ok-height.height - 1 - c.loop-down.down in
    let level_is : level + 1 ≡ c.in_ok-height.height - c.loop-down.down = omega (arith, c.loop-down-test.true) in
    c.in_err-check_level.ensures.refused came.us
    (row_above c.args.tree c.args.pages.now c.in_ok-height.height c.loop-down.down c.loop-down.top level level_is came)
    (has_row_below c.args.tree c.args.pages.now c.told-pages c.in_ok-height.height c.loop-down.down c.loop-down.top c.child_at-first.result level
    c.in_ok-height.ensures.row.each.0.node.stands.level_is c.loop-down-test.true level_is c.requires.file placed files came c.child_at-first.ensures))
