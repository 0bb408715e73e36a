use Rattle.std.proofs.Common.{ℕ, ◌+◌, ◌*◌, ap}
use Rattle.undo_log.proofs.Appended.{asked}
use Rattle.undo_log.proofs.Opening.{where_none, none_free, opens}
use Rattle.undo_log.proofs.slots.open_in.Goals as goal

pub returns-in_default-clause-reason : goal.returns-in_default-clause-reason
returns-in_default-clause-reason g c =
    none_free c.in_ok-bytes.bytes.now (g.M.Mtr.state c.args.m.now) (g.M.Mtr.state c.bytes.follows.lender-at-none)
    (asked 1 _ _ _ c.bytes.follows.holds-at-none) c.in_ok-bytes.ensures.shown
    (where_none c.free_slot.result _ c.in_default.is c.free_slot.ensures.none)

pub returns-clause-opened : goal.returns-clause-opened
returns-clause-opened g c =
    opens c.in-Some.slot c.args.id c.args.page (40 + 16 * c.from.result) c.in_ok-bytes.bytes.now c.bytes_of_slot.result c.u64_bytes.result _ _ _ _ _
    c.requires.some.0 c.requires.some.1 (asked 1 _ _ _ c.bytes.follows.holds-at-none) c.in_ok-bytes.ensures.shown c.in-Some.ensures.some.0
    c.in-Some.ensures.some.1 (ap (λ (n : ℕ). 40 + 16 * n) c.from.ensures) c.in_ok-put.ensures.put c.bytes_of_slot.ensures c.in_ok-put-2.ensures.put
    c.u64_bytes.ensures c.in_ok-put-3.ensures.put
