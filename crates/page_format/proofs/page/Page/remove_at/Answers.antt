use Rattle.std.proofs.Common.{◌≡◌}
use Rattle.page_format.specs.Words.{records_of}
use Rattle.page_format.proofs.Orders.{rising_remove}
use Rattle.page_format.proofs.page.Page.remove_at.Goals as goal

pub returns-clause-order : goal.returns-clause-order
returns-clause-order c = λ r.
    let old : c.args.self.now ≡ c.self.inside.bytes = cc (c.self.view_is) in
    rw c.remove_record.ensures.records (rising_remove (records_of c.self.inside.bytes) c.args.i (rw old at r))
