use Rattle.std.proofs.Common.{◌≡◌, ◌+◌, ◌≤◌, length}
use Rattle.std.specs.Prelude.{IsTrue}
use Rattle.mtr.specs.Calls.{Consults}
use Rattle.catalog.specs.Tables.{page_count, HoldsBelow}
use Rattle.catalog.specs.Loading.{catalog_pages}
use Rattle.catalog.proofs.loading.load.Given as goal

abbrev pub invariant-loop-page : goal.invariant-loop-page
invariant-loop-page g l =
    let state = g.M.Mtr.state in
    record {
      consults : Consults catalog_pages (state l.fn.m) (state l.m);
      counted : IsTrue (state l.m).told → l.count ≡ page_count (state l.fn.m).seen;
      tables : IsTrue (state l.m).told → HoldsBelow l.tables.items l.page (state l.fn.m).seen;
      few : 5 + length l.tables.items ≤ l.page;
    }
