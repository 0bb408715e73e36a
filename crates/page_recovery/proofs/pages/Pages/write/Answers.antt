use Rattle.std.proofs.Common.{ℕ, ◌<◌, Option, List, length, sym, subst}
use Rattle.page_recovery.proofs.Instead.{pages_without}
use Rattle.page_recovery.proofs.pages.Pages.write.Goals as goal

pub invariant_of-self : goal.invariant_of-self
invariant_of-self c =
    pages_without c.self.inside.slots.items c.taken.new.slots.items c.args.page
    (subst (λ (v : List (Option (List ℕ))). c.args.page < length v) (sym c.self.view_is) c.requires.within) c.self.invariant c.in_err-old.ensures.items
