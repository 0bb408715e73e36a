use Rattle.std.proofs.Common.{true, false, sym, ◌∙◌}
use Rattle.std.specs.Map.{keys_of}
use Rattle.buffer_pool.specs.Frames.{is_idle_at}
use Rattle.buffer_pool.proofs.Orders.{last_step}
use Rattle.buffer_pool.proofs.order.last_idle.Goals as goal

pub loop-page-preserved : goal.loop-page-preserved
loop-page-preserved c =
    last_step (is_idle_at c.args.slots.now) c.loop-page.pages c.next_back.new.self (c.in-Some.page.now, c.in-Some.field-0-1.now) false (keys_of c.args.order.now.entries)
    c.in-Some.ensures.steps (sym c.is_idle_at.ensures ∙ c.if-is_idle_at.false) c.loop-page.invariant

pub returns-then-is_idle_at : goal.returns-then-is_idle_at
returns-then-is_idle_at c =
    last_step (is_idle_at c.args.slots.now) c.loop-page.pages c.next_back.new.self (c.in-Some.page.now, c.in-Some.field-0-1.now) true (keys_of c.args.order.now.entries)
    c.in-Some.ensures.steps (sym c.is_idle_at.ensures ∙ c.if-is_idle_at.true) c.loop-page.invariant
