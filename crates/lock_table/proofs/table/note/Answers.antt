use Rattle.std.proofs.Common.{◌∷◌, [], ◌∙◌, sym, ap, length, length-append, arith}
use Rattle.lock_table.proofs.Soundness.{fewer_without, upto_without}
use Rattle.lock_table.proofs.table.note.Goals as goal

pub returns-then-is_waiting-clause-room : goal.returns-then-is_waiting-clause-room
returns-then-is_waiting-clause-room c =
    omega (
      arith,
      c.requires,
      fewer_without c.args.txn c.args.waiting.now (sym c.is_waiting.ensures ∙ c.if-is_waiting.true),
      ap length c.push_reserved.ensures.items,
      length-append c.args.withdrawn.now.items (c.args.txn ∷ []),
      c.push_reserved.ensures.capacity,
    )

pub returns-else-is_waiting-clause-room : goal.returns-else-is_waiting-clause-room
returns-else-is_waiting-clause-room c = omega (arith, c.requires, upto_without c.args.txn c.args.waiting.now)
