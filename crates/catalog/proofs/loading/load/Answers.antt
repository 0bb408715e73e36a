use Rattle.std.proofs.Common.{ℕ, ◌≡◌, List, length, refl, sym, ap, subst, arith}
use Rattle.std.proofs.lemmas.Result.{err_from_is_err_and}
use Rattle.mtr.proofs.Consulting.{consults_asked, consults_then, claim_left}
use Rattle.catalog.specs.declared.held.Held.{Held}
use Rattle.catalog.specs.Tables.{HoldsBelow}
use Rattle.catalog.specs.Loading.{catalog_pages}
use Rattle.catalog.proofs.Prefixes.{below_first, below_more}
use Rattle.catalog.proofs.Shown.{distinct_catalog_pages}
use Rattle.catalog.proofs.Told.{adds_few, shows_first, table_reason, add_reason}
use Rattle.catalog.proofs.loading.load.Goals as goal

pub loop-page-init : goal.loop-page-init
loop-page-init g c =
    let looked = consults_asked catalog_pages 0 _ _ _ refl c.capacity.ensures.asks in
    record {
      consults = looked;
      counted = λ told. c.in_ok-count.ensures.value (looked.goes.told told);
      tables = λ told. subst (λ (ts : List Held). HoldsBelow ts 5 (g.M.Mtr.state c.args.m.now).seen) (sym c.new-tables.ensures.items) (below_first (g.M.Mtr.state c.args.m.now).seen);
      few = omega (arith, ap (λ (ts : List Held). length ts) c.new-tables.ensures.items);
    }

pub table_on-requires-clause-few : goal.table_on-requires-clause-few
table_on-requires-clause-few g c = omega (arith, c.requires, claim_left catalog_pages _ _ distinct_catalog_pages c.loop-page.invariant.consults.visits)

pub returns-in_err-shown-clause-consults : goal.returns-in_err-shown-clause-consults
returns-in_err-shown-clause-consults g c = consults_then catalog_pages _ _ _ c.loop-page.invariant.consults c.table_on.ensures.consults

pub returns-in_err-shown-clause-reason : goal.returns-in_err-shown-clause-reason
returns-in_err-shown-clause-reason g c =
    let p = err_from_is_err_and c.from_residual-in_err-shown.result c.from_residual-in_err-shown.ensures.1 in
    rw (p.1, p.2)
    (table_reason c.loop-page.page c.in_ok-count.count c.loop-page.tables.items (g.M.Mtr.state c.args.m.now) (g.M.Mtr.state c.loop-page.m) (g.M.Mtr.state c.table_on.new.m) c.loop-page.invariant.consults c.table_on.ensures.consults c.loop-page.invariant.counted c.loop-page.invariant.tables (omega arith) (omega arith) c.in_err-shown.field-0.0 c.in_err-shown.ensures.reason)

pub returns-in_err-add_shown-clause-consults : goal.returns-in_err-add_shown-clause-consults
returns-in_err-add_shown-clause-consults g c = consults_then catalog_pages _ _ _ c.loop-page.invariant.consults c.table_on.ensures.consults

pub returns-in_err-add_shown-clause-reason : goal.returns-in_err-add_shown-clause-reason
returns-in_err-add_shown-clause-reason g c =
    let p = err_from_is_err_and c.from_residual-in_err-add_shown.result c.from_residual-in_err-add_shown.ensures.1 in
    rw (p.1, p.2)
    (add_reason c.loop-page.page c.in_ok-count.count c.loop-page.tables.items (g.M.Mtr.state c.args.m.now) (g.M.Mtr.state c.loop-page.m) (g.M.Mtr.state c.table_on.new.m) c.loop-page.invariant.consults c.table_on.ensures.consults c.loop-page.invariant.counted c.loop-page.invariant.tables (omega arith) (omega arith) c.in_ok-shown.shown c.in_ok-shown.ensures.shown c.in_err-add_shown.field-0.0 c.in_err-add_shown.ensures.refused)

pub loop-page-preserved : goal.loop-page-preserved
loop-page-preserved g c =
    let before = c.loop-page.invariant in
    let here = c.table_on.ensures.consults in
    record {
      consults = consults_then catalog_pages _ _ _ before.consults here;
      counted = λ told. before.counted (here.goes.told told);
      tables = λ told.
          let shows = shows_first c.loop-page.page c.in_ok-count.count c.loop-page.tables.items (g.M.Mtr.state c.args.m.now) (g.M.Mtr.state c.loop-page.m) (g.M.Mtr.state c.table_on.new.m) before.consults here before.counted before.tables (omega arith) (omega arith) told c.in_ok-shown.shown (c.in_ok-shown.ensures.shown told) in
          below_more c.loop-page.tables.items c.loop-page.page c.in_ok-shown.shown c.add_shown.new.tables.items (g.M.Mtr.state c.args.m.now).seen (before.tables (here.goes.told told)) shows c.in_ok-add_shown.ensures.added;
      few = adds_few c.loop-page.tables.items c.loop-page.page c.in_ok-shown.shown c.add_shown.new.tables.items c.in_ok-add_shown.ensures.added before.few;
    }

pub returns-clause-catalog : goal.returns-clause-catalog
returns-clause-catalog g c = λ told.
    let end : c.loop-page.page ≡ 21 = omega arith in
    subst (λ (ts : List Held). HoldsBelow ts 21 (g.M.Mtr.state c.args.m.now).seen) (sym c.from_vec.ensures) (subst (λ (n : ℕ). HoldsBelow c.loop-page.tables.items n (g.M.Mtr.state c.args.m.now).seen) end (c.loop-page.invariant.tables told))
