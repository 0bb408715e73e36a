use Rattle.std.proofs.Common.{ℕ, ◌<◌, Option, Some, List, length, sym, subst, ◌∙◌}
use Rattle.std.specs.Prelude.{slice_set}
use Rattle.page_recovery.proofs.Instead.{pages_without, set_again}
use Rattle.page_recovery.proofs.pages.Pages.set.Goals as goal

pub invariant_of-self : goal.invariant_of-self
invariant_of-self c =
    pages_without c.self.inside.slots.items c.taken.new.slots.items c.args.page
    (subst (λ (v : List (Option (List ℕ))). c.args.page < length v) (sym c.self.view_is) c.requires.within) c.self.invariant c.in_err-old.ensures.items

pub returns : goal.returns
returns c =
    record {
      ok =
          set_again c.self.inside.slots.items c.args.page (Some c.filled.result) c.in_ok-old.ensures.items c.put_slot.ensures.items
          ∙ (λ i. slice_set (c.self.view_is i) c.args.page (Some (c.filled.ensures i)));
    }
