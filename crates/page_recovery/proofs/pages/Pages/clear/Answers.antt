use Rattle.std.proofs.Common.{ℕ, ◌<◌, Option, List, length, sym, subst}
use Rattle.page_recovery.proofs.Instead.{instead, pages_instead, length-none}
use Rattle.page_recovery.proofs.pages.Pages.clear.Goals as goal

pub invariant_of-self : goal.invariant_of-self
invariant_of-self c =
    let old = c.self.inside.slots.items in
    let new = c.put_slot.new.slots.items in
    let within = subst (λ (v : List (Option (List ℕ))). c.args.page < length v) (sym c.self.view_is) c.requires.within in
    pages_instead c.args.page c.in_ok-zeros.zeros old new c.self.invariant (instead old new c.args.page c.in_ok-zeros.zeros within c.put_slot.ensures.items)
    (length-none c.in_ok-zeros.zeros c.in_ok-zeros.ensures)
