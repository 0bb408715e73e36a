use Rattle.std.proofs.Common.{refl, sym, ap, ◌∙◌, length, drop}
use Rattle.mtr.proofs.listed.ListedPagesMtr.bytes.Goals as goal

pub returns : goal.returns
returns c =
    let seen = ap (λ f. f c.args.page) c.visit.ensures.seen in
    let same = c.page.ensures.value ∙ seen in (
      (refl, λ _. tt, c.visit.ensures.looks),
      record {
        size = c.page.ensures.size;
        shown = λ told. record { size = ap length (sym same) ∙ c.page.ensures.size; same = ap (drop 20) same };
        dealt_with = λ _. refl;
        shut = λ shut. let e = shut.absent in cc;
        asks = tt;
      },
    )
