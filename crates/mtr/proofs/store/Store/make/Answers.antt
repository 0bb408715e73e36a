use Rattle.std.proofs.Common.{ℕ, List, ap, ◌∙◌, arith}
use Rattle.mtr.specs.Seen.{visit}
use Rattle.mtr.proofs.Counted.{none_counted}
use Rattle.mtr.proofs.store.Store.make.Goals as goal

pub returns-clause-made : goal.returns-clause-made
returns-clause-made c =
    let written = c.replace.ensures in
    let looks = c.visit.ensures.looks in
    record {
      goes = record {
        told = λ told. written.told (looks.goes.told told);
        stays = λ told good. looks.goes.stays (written.stays (λ first. none_counted _) told) good;
        faults = omega arith;
        whole = looks.goes.whole ∙ written.whole_is;
      };
      pages = λ told.
          let same = looks.pages told in
          let here = written.pages (looks.goes.told told) in
          record {
            standing = same.standing ∙ here.standing;
            fault = same.fault ∙ here.fault;
            here = ap (λ (f : ℕ → List ℕ). f c.args.page) same.seen ∙ here.here;
            elsewhere = λ other ne. ap (λ (f : ℕ → List ℕ). f other) same.seen ∙ here.elsewhere other ne;
          };
      visited_is = looks.visited_is ∙ ap (visit c.args.page) written.visited_is;
      spare = λ enough. omega (arith, looks.spare, written.spare_is);
    }
