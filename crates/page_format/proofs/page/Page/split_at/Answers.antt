use Rattle.std.proofs.Common.{◌≡◌}
use Rattle.page_format.specs.Words.{records_of}
use Rattle.page_format.proofs.Orders.{rising_take, rising_drop}
use Rattle.page_format.proofs.page.Page.split_at.Goals as goal

pub returns-clause-order : goal.returns-clause-order
returns-clause-order c = λ r.
    let old : c.args.self.now ≡ c.self.inside.bytes = cc (c.self.view_is) in
    let rising = rw old at r in
    (rw c.keep_lower.ensures.records (rising_take c.args.i (records_of c.self.inside.bytes) rising), rw c.keep_upper.ensures.records (rising_drop c.args.i (records_of c.self.inside.bytes) rising))
