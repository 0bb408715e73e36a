use Rattle.std.proofs.Common.{ℕ, Option, List, length, subst}
use Rattle.std.specs.Prelude.{All}
use Rattle.log_format.specs.declared.group.Record.{Record}
use Rattle.page_recovery.specs.Applying.{IsWithin, AreBroughtOn}
use Rattle.page_recovery.proofs.Followed.{none_named}
use Rattle.page_recovery.proofs.applying.apply_next.Goals as goal

pub returns : goal.returns
returns c = λ start groups on.
    let old = c.args.pages.now in
    none_named start groups c.args.group.now old c.apply_group.new.pages (subst (λ (past : Option ℕ). AreBroughtOn start groups past old) c.in_default.is on)
    (subst (λ (rs : List Record). All (IsWithin (length old)) rs) c.as_slice.ensures
    (subst (λ (n : ℕ). All (IsWithin n) c.as_slice.result.now) c.count.ensures.value c.in_default-page_past_in.ensures.within))
    c.in_ok-apply_group.ensures.became
