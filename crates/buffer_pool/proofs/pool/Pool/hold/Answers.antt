use Rattle.std.proofs.Common.{◌<◌, length, sym, subst}
use Rattle.std.specs.Prelude.{slice_index_or, None}
use Rattle.buffer_pool.specs.Frames.{PoolView, fixes_of}
use Rattle.buffer_pool.proofs.SlotEdits.{few_of, kept_by, pool_of}
use Rattle.buffer_pool.proofs.pool.Pool.hold.Goals as goal

pub fix_slot-requires-clause-few : goal.fix_slot-requires-clause-few
fix_slot-requires-clause-few c =
    few_of (slice_index_or c.self.inside.slots.items c.args.page None) 4294967295 (subst (λ (v : PoolView). fixes_of v c.args.page < 4294967295) (sym c.self.view_is) c.requires.few)

pub returns : goal.returns
returns c =
    let within = subst (λ (v : PoolView). c.args.page < length v.slots) (sym c.self.view_is) c.requires.within in
    rw (← c.self.view_is) (pool_of c.fix_slot.ensures (c.use_page.ensures (c.self.invariant.known c.args.page within)))

pub invariant_of-self : goal.invariant_of-self
invariant_of-self c =
    let within = subst (λ (v : PoolView). c.args.page < length v.slots) (sym c.self.view_is) c.requires.within in
    kept_by c.args.page _ c.self.invariant c.fix_slot.ensures (c.use_page.ensures (c.self.invariant.known c.args.page within))
