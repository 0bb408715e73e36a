use Rattle.std.proofs.Common.{ℕ, ◌+◌, ◌*◌, refl, ap}
use Rattle.undo_log.proofs.Appended.{asked}
use Rattle.undo_log.proofs.Opening.{closes}
use Rattle.undo_log.proofs.slots.close_in.Goals as goal

pub returns-clause-closed : goal.returns-clause-closed
returns-clause-closed g c =
    closes c.args.slot (40 + 16 * c.from.result) c.in_ok-bytes.field-0.now _ _ _ _ (asked 1 _ _ _ c.bytes.follows.holds-at-none) c.in_ok-bytes.ensures.shown
    (ap (λ (n : ℕ). 40 + 16 * n) c.from.ensures) c.in_ok-put.ensures.put refl
