use Rattle.std.proofs.Common.{refl, sym, ap, subst, Some}
use Rattle.entries.specs.Index.{Index}
use Rattle.tree_use.specs.Shown.{IsEmptyOf}
use Rattle.tree_use.proofs.tree_use.TreeUse.begin.Goals as goal

pub returns-in_ok-new : goal.returns-in_ok-new
returns-in_ok-new g c =
    subst (λ (i : Index). IsEmptyOf c.args.tree i) (sym c.in_ok-new.ensures) (record {
      pairs = ap (λ pairs. Some pairs) (c.if-is_new_tree.ensures.none refl);
      place = λ actor. refl;
      awaited = refl;
      widths = (refl, refl);
      in_pages = refl;
    })
