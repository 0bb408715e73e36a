use Rattle.page_recovery.proofs.Instead.{pages_none}
use Rattle.page_recovery.proofs.pages.Pages.new.Goals as goal

pub invariant_of-result : goal.invariant_of-result
invariant_of-result c = pages_none c.args.count c.in_ok-empty_slots.field-0.items c.ranges.count.fits c.in_ok-empty_slots.ensures
