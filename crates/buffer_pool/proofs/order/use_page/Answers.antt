use Rattle.buffer_pool.proofs.Orders.{keys-promoted}
use Rattle.buffer_pool.proofs.order.use_page.Goals as goal

pub returns : goal.returns
returns c = λ known. rw c.promote.ensures.entries (keys-promoted c.args.page c.args.order.now.entries known)
