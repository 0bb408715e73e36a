use Rattle.std.proofs.Common.{◌≡◌, ◌<◌, length, Some, sym, subst}
use Rattle.std.specs.Map.{keys_of}
use Rattle.buffer_pool.specs.Frames.{PoolView, is_idle_at, next_idle}
use Rattle.buffer_pool.proofs.Orders.{last_where_passes}
use Rattle.buffer_pool.proofs.SlotEdits.{idle_within, kept_moved_by, pool_of}
use Rattle.buffer_pool.proofs.pool.Pool.bring.Goals as goal

pub move_frame-requires-clause-from : goal.move_frame-requires-clause-from
move_frame-requires-clause-from c =
    idle_within c.self.inside.slots.items c.args.from
    (last_where_passes (is_idle_at c.self.inside.slots.items) (keys_of c.self.inside.order.entries) c.args.from
    (subst (λ (v : PoolView). next_idle v ≡ Some c.args.from) (sym c.self.view_is) c.requires.from))

pub move_frame-requires-clause-idle : goal.move_frame-requires-clause-idle
move_frame-requires-clause-idle c =
    last_where_passes (is_idle_at c.self.inside.slots.items) (keys_of c.self.inside.order.entries) c.args.from
    (subst (λ (v : PoolView). next_idle v ≡ Some c.args.from) (sym c.self.view_is) c.requires.from)

pub returns : goal.returns
returns c =
    let within = subst (λ (v : PoolView). c.args.page < length v.slots) (sym c.self.view_is) c.requires.within in
    rw (← c.self.view_is) (pool_of c.move_frame.ensures (c.use_page.ensures (c.self.invariant.known c.args.page within)))

pub invariant_of-self : goal.invariant_of-self
invariant_of-self c =
    let within = subst (λ (v : PoolView). c.args.page < length v.slots) (sym c.self.view_is) c.requires.within in
    kept_moved_by c.args.from c.args.page _ c.self.invariant c.move_frame.ensures (c.use_page.ensures (c.self.invariant.known c.args.page within))
