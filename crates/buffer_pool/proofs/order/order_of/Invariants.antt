use Rattle.std.proofs.Common.{◌≡◌}
use Rattle.buffer_pool.proofs.Orders.{HoldsFirst}
use Rattle.buffer_pool.proofs.order.order_of.Given as goal

abbrev pub invariant-loop-page : goal.invariant-loop-page
invariant-loop-page l = record { first : HoldsFirst l.page l.order.entries; cap : l.order.cap ≡ 18446744073709551615 }
